-- The code's table is the table, and facts that are computed over all its rows.
use Rattle.std.proofs.Common.{◌≡◌, ℕ, ◌<◌, ◌≤◌, refl, map, sym, ap, subst, ◌∙◌, get_or, true, Bool, List, length}
use Rattle.std.specs.List.{list_all}
use Rattle.std.specs.Str.{IsAscii}
use Rattle.std.proofs.Common.{nat_lt, [], ◌∷◌, zero, suc, lit<}
use Rattle.std.proofs.lemmas.List.{get_or-map}
use Rattle.std.proofs.lemmas.Bool.{leb-true, ltb-true, eqb-true}
use Rattle.z_instr.specs.declared.table.Line.{Line}
use Rattle.z_instr.specs.declared.table.TheConstants.{TABLE, ROWS}
use Rattle.z_instr.specs.Kinds.{operands_of, demand_of}
use Rattle.z_instr.specs.Table.{Entry, table, entry_at, kind_at, no_entry}
use Rattle.z_instr.specs.Lines.{entry_of}
use Rattle.z_instr.specs.Layout.{place, room, lead, length_by, form_length}
use Rattle.z_instr.specs.Facts.{has_fitting_opcode, has_fitting_count, has_fitting_name, is_refused_alike}
use Rattle.z_instr.proofs.Passing.{passes, and_left, and_right}

pub same_table : map entry_of TABLE ≡ table
unfolding table
same_table = refl

pub line_is : (n : ℕ) (d : Line) → n < ROWS → entry_of (get_or TABLE n d) ≡ entry_at n
unfolding entry_at
line_is n d h = sym (get_or-map entry_of TABLE n d no_entry h) ∙ ap (λ t. get_or t n no_entry) same_table

-- what is alike in all rows
pub at_row : {X : Type 0} (f g : Entry → X) → map f (map entry_of TABLE) ≡ map g (map entry_of TABLE) → (n : ℕ) →
    n < ROWS → f (entry_at n) ≡ g (entry_at n)
unfolding entry_at
at_row f g e n h =
    let in_table : n < length table = subst (λ (t : List Entry). n < length t) same_table h in
    let same : map f table ≡ map g table = subst (λ t. map f t ≡ map g t) same_table e in
    sym (get_or-map f table n no_entry (f no_entry) in_table)
    ∙ ap (λ xs. get_or xs n (f no_entry)) same
    ∙ get_or-map g table n no_entry (f no_entry) in_table

-- the first letters are the name
pub count_is : (n : ℕ) (d : Line) → n < ROWS → (get_or TABLE n d).count ≤ 8
count_is n d h = leb-true _ _ (passes has_fitting_count TABLE n d refl h)

-- what a computed test of the table says of each row
pub passes_row : (test : Entry → Bool) → list_all test (map entry_of TABLE) ≡ true → (n : ℕ) → n < ROWS →
    test (entry_at n) ≡ true
unfolding entry_at
passes_row test e n h =
    passes test table n no_entry (subst (λ t. list_all test t ≡ true) same_table e)
    (subst (λ (t : List Entry). n < length t) same_table h)

pub fitting_opcode : (n : ℕ) → n < ROWS → has_fitting_opcode (entry_at n) ≡ true
fitting_opcode = passes_row has_fitting_opcode refl

pub opcode_room : (n : ℕ) → n < ROWS → (entry_at n).opcode < room (place (entry_at n).form)
opcode_room n h = ltb-true _ _ (and_left _ _ (fitting_opcode n h))

pub opcode_length : (n : ℕ) → n < ROWS →
    length_by (lead (place (entry_at n).form) (entry_at n).opcode) ≡ form_length (entry_at n).form
opcode_length n h = eqb-true _ _ (and_right _ _ (fitting_opcode n h))

pub fitting_name : (n : ℕ) → n < ROWS → has_fitting_name (entry_at n) ≡ true
fitting_name = passes_row has_fitting_name refl

pub refused_alike : (n : ℕ) → n < ROWS → is_refused_alike (entry_at n) ≡ true
refused_alike = passes_row is_refused_alike refl

-- letters that all pass the test are ASCII
ascii : (letters : List ℕ) → list_all (λ letter. nat_lt letter 128) letters ≡ true → IsAscii letters
ascii [] h i = lit< tt
ascii (b ∷ bs) h zero = ltb-true _ _ (and_left _ _ h)
ascii (b ∷ bs) h (suc i) = ascii bs (and_right _ _ h) i

pub name_ascii : (n : ℕ) → n < ROWS → IsAscii (entry_at n).name
name_ascii n h = ascii _ (and_right _ _ (and_right _ _ (fitting_name n h)))

-- which operands an operation touches
pub operands_at : (n : ℕ) → n < ROWS → (entry_at n).operands ≡ operands_of (kind_at n)
unfolding kind_at
operands_at n h = at_row (λ (e : Entry). e.operands) (λ (e : Entry). operands_of e.kind) refl n h

-- what an operation demands
pub demand_at : (n : ℕ) → n < ROWS → (entry_at n).demand ≡ demand_of (kind_at n)
unfolding kind_at
demand_at n h = at_row (λ (e : Entry). e.demand) (λ (e : Entry). demand_of e.kind) refl n h
