-- The storage that a CPU may use, by its own addresses, and what is wrong with the fetch of an instruction.
use Rattle.std.specs.Prelude.{ℕ, ◌*◌, ◌/◌, ◌%◌, Bool, not, nat_eq, List, [], ◌∷◌, map, Option, Some, None}
use Rattle.std.specs.List.{list_any, filter}
use Rattle.z_regs.specs.Prefix.{absolute_of}
use Rattle.z_instr.specs.Operands.{from_up, where_wrong, specification, addressing, protection}

-- the pages that a CPU may use: all of storage with a prefix, and all but the first area without one
unfoldable pub accessible_pages : Option ℕ → List ℕ
accessible_pages None = from_up 2 254
accessible_pages (Some p) = from_up 0 256

-- the absolute page of a real one
abbrev pub absolute_page : Option ℕ → ℕ → ℕ
absolute_page prefix page = absolute_of prefix (page * 4096) / 4096

-- the text pages as the CPU sees them: a page is one where its absolute page is
unfoldable pub text_pages : Option ℕ → List ℕ → List ℕ
text_pages prefix text = filter (λ page. list_any (nat_eq (absolute_page prefix page)) text) (from_up 0 256)

-- ---- the fetch of an instruction

abbrev pub lies_in : List ℕ → ℕ → Bool
lies_in pages a = list_any (nat_eq (a / 4096)) pages

-- what is wrong with the fetch of the byte at an address
abbrev pub byte_unfetched : List ℕ → List ℕ → ℕ → Option ℕ
byte_unfetched accessible text a =
    where_wrong (not (lies_in accessible a)) addressing (where_wrong (not (lies_in text a)) protection None)

-- the first exception, where there is one
abbrev pub first_some : List (Option ℕ) → Option ℕ
first_some [] = None
first_some (None ∷ rest) = first_some rest
first_some (Some code ∷ rest) = Some code

-- the code of the exception at the fetch of so many bytes from an address on: specification where it is odd,
-- and then
-- for each byte from the first addressing before protection
unfoldable pub unfetched : List ℕ → List ℕ → ℕ → ℕ → Option ℕ
unfetched accessible text address length =
    where_wrong (nat_eq (address % 2) 1) specification
    (first_some (map (byte_unfetched accessible text) (from_up address length)))
