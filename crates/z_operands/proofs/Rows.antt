-- The first row of a name is the one that is found.
use Rattle.std.proofs.Common.{◌≡◌, ℕ, zero, suc, ◌+◌, ◌<◌, Bool, false, List, [], ◌∷◌, length, get_or}
use Rattle.std.proofs.Common.{Option, Some, None, refl, sym, ap, ◌∙◌, subst, arith, if◌then◌else◌}
use Rattle.std.proofs.lemmas.Slice.Eq.{bytes_eq-Decides}
use Rattle.z_text.proofs.Keys.{bytes_differ}
use Rattle.z_instr.proofs.Distinct.{one_name}
use Rattle.z_instr.proofs.TableFacts.{same_table}
use Rattle.z_instr.specs.Table.{Entry, table, entry_at, no_entry}
use Rattle.z_instr.specs.declared.table.TheConstants.{ROWS}
use Rattle.z_operands.specs.Operations.{row_from, row_named}

by_name : (n : ℕ) (name : List ℕ) (rest : Option ℕ) (b : Bool) → b ≡ false →
    (if b then Some n else rest) ≡ rest
by_name n name rest b e = ap (λ c. if c then Some n else rest) e

no_row : (n : ℕ) (es : List Entry) (name : List ℕ) →
    ((i : ℕ) → i < length es → (get_or es i no_entry).name ≡ name → ⊥) → row_from n es name ≡ None
no_row n [] name h = refl
no_row n (e ∷ es) name h =
    ap (λ c. if c then Some n else row_from (suc n) es name) (bytes_differ e.name name (h 0 (omega arith)))
    ∙ no_row (suc n) es name (λ i l. h (suc i) (omega arith))

a_row : (n : ℕ) (es : List Entry) (name : List ℕ) (i : ℕ) → i < length es →
    (get_or es i no_entry).name ≡ name →
    ((j : ℕ) → j < i → (get_or es j no_entry).name ≡ name → ⊥) → row_from n es name ≡ Some (n + i)
a_row n [] name i l e h = absurd (omega arith)
a_row n (x ∷ es) name zero l e h =
    let same : n ≡ n + 0 = omega arith in
    ap (λ c. if c then Some n else row_from (suc n) es name) ((bytes_eq-Decides x.name name).1 e)
    ∙ ap Some same
a_row n (x ∷ es) name (suc i) l e h =
    let same : suc n + i ≡ n + suc i = omega arith in
    ap (λ c. if c then Some n else row_from (suc n) es name) (bytes_differ x.name name (h 0 (omega arith)))
    ∙ (a_row (suc n) es name i (omega arith) e (λ j k. h (suc j) (omega arith)) ∙ ap Some same)

rows_in_table : length table ≡ ROWS
rows_in_table = sym (ap length same_table)

pub row_none : (name : List ℕ) → ((n : ℕ) → n < ROWS → (entry_at n).name ≡ name → ⊥) → None ≡ row_named name
unfolding row_named entry_at
row_none name h = sym (no_row 0 table name (λ i l. h i (subst (λ n. i < n) rows_in_table l)))

named : (name : List ℕ) (j : ℕ) → (entry_at j).name ≡ name → (get_or table j no_entry).name ≡ name
unfolding entry_at
named name j f = f

unnamed : (name : List ℕ) (j : ℕ) → (get_or table j no_entry).name ≡ name → (entry_at j).name ≡ name
unfolding entry_at
unnamed name j f = f

no_earlier : (name : List ℕ) (row j : ℕ) → row < ROWS → (entry_at row).name ≡ name → j < row →
    (get_or table j no_entry).name ≡ name → ⊥
no_earlier name row j l e k f =
    let same : j ≡ row = one_name j row (omega arith) l (unnamed name j f ∙ sym e) in
    absurd (omega arith)

pub row_found : (name : List ℕ) (row : ℕ) → row < ROWS → (entry_at row).name ≡ name →
    Some row ≡ row_named name
unfolding row_named
row_found name row l e =
    let same : 0 + row ≡ row = omega arith in
    sym (a_row 0 table name row (subst (λ n. row < n) (sym rows_in_table) l) (named name row e)
    (λ j k f. no_earlier name row j l e k f) ∙ ap Some same)
