-- Worked values of the pages that a CPU may use, of fetches, and of the part that instructions have in
-- transactions.
use Rattle.std.proofs.Common.{◌≡◌, ℕ, true, false, Bool, List, [], ◌∷◌, None, Some, refl}
use Rattle.std.specs.Prelude.{nat_eq, codes, map, Option}
use Rattle.std.specs.List.{list_any, filter}
use Rattle.z_instr.specs.Table.{Entry, table}
use Rattle.z_instr.specs.Access.{accessible_pages, text_pages, unfetched}
use Rattle.z_instr.specs.Roles.{is_end, sets_access_register, is_relative_branch, begins}

-- ---- pages, with the prefix A000 in hexadecimal

first_page_without : list_any (nat_eq 1) (accessible_pages None) ≡ false
unfolding accessible_pages
first_page_without = refl

second_area_without : list_any (nat_eq 2) (accessible_pages None) ≡ true
unfolding accessible_pages
second_area_without = refl

first_page_with : list_any (nat_eq 0) (accessible_pages (Some 0xa000)) ≡ true
unfolding accessible_pages
first_page_with = refl

no_page_beyond : list_any (nat_eq 256) (accessible_pages (Some 0xa000)) ≡ false
unfolding accessible_pages
no_page_beyond = refl

text_moves : text_pages (Some 0xa000) (4 ∷ 11 ∷ []) ≡ 1 ∷ 4 ∷ []
unfolding text_pages
text_moves = refl

text_stays : text_pages None (4 ∷ 11 ∷ []) ≡ 4 ∷ 11 ∷ []
unfolding text_pages
text_stays = refl

-- ---- fetches without a prefix, where page 4 is the only text page, or the last one too

abbrev fetch : List ℕ → ℕ → ℕ → Option ℕ
fetch text address length = unfetched (accessible_pages None) text address length

in_text : fetch (4 ∷ []) 0x4000 6 ≡ None
unfolding unfetched accessible_pages
in_text = refl

odd_first : fetch (4 ∷ []) 0x1001 2 ≡ Some 6
unfolding unfetched accessible_pages
odd_first = refl

closed : fetch (4 ∷ []) 0x1000 2 ≡ Some 5
unfolding unfetched accessible_pages
closed = refl

out_of_text : fetch (4 ∷ []) 0x4ffe 4 ≡ Some 4
unfolding unfetched accessible_pages
out_of_text = refl

-- the first byte that fails decides: protection before it comes to the end of storage, and addressing after
-- it
protected_before_the_end : fetch (4 ∷ []) 1048574 4 ≡ Some 4
unfolding unfetched accessible_pages
protected_before_the_end = refl

beyond_the_end : fetch (4 ∷ 255 ∷ []) 1048574 4 ≡ Some 5
unfolding unfetched accessible_pages
beyond_the_end = refl

-- ---- the names of the operations that have a part in transactions

abbrev names_where : (Entry → Bool) → List (List ℕ)
names_where test = map (λ (e : Entry). e.name) (filter test table)

branches : names_where is_relative_branch ≡
    codes "BRC" ∷ codes "BRAS" ∷ codes "BRCT" ∷ codes "BRCTG" ∷ codes "BRCL" ∷ codes "BRASL" ∷ codes "CGRJ" ∷
    codes "CLGRJ" ∷ codes "CRJ" ∷ codes "CGIJ" ∷ []
unfolding table
branches = refl

ends : names_where is_end ≡ codes "TEND" ∷ []
unfolding table
ends = refl

access : names_where sets_access_register ≡ codes "SAR" ∷ []
unfolding table
access = refl

beginning : names_where begins ≡ codes "TBEGIN" ∷ codes "TBEGINC" ∷ []
unfolding table
beginning = refl
