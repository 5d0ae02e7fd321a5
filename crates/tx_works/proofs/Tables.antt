-- Tables in which one value is changed. (Changed again: put_twice of tx_progress's Parts.)
use Rattle.std.proofs.Common.{◌≡◌, ◌≢◌, ℕ, ◌<◌, Bool, true, false, List, length, get_or, set}
use Rattle.std.proofs.Common.{refl, sym, ap, ◌∙◌}
use Rattle.std.specs.Prelude.{◌==◌, if◌then◌else◌}
use Rattle.std.proofs.lemmas.Bool.{eqb-true, eqb-false}
use Rattle.std.proofs.lemmas.List.{get_or-set_same, get_or-set_other}
use Rattle.tx_serial.specs.Flat.{at_put}

-- ---- one value of a table

if_same : {A : Type 0} (b : Bool) (v w u : A) → (b ≡ true → u ≡ v) → (b ≡ false → u ≡ w)
    → u ≡ (if b then v else w)
if_same true v w u here there = here refl
if_same false v w u here there = there refl

-- a table that has this value at the place, and elsewhere is as before
pub put_is : {A : Type 0} (table : ℕ → A) (i : ℕ) (v : A) (j : ℕ) (u : A) → (j ≡ i → u ≡ v)
    → (j ≢ i → u ≡ table j) → u ≡ at_put table i v j
put_is table i v j u here there =
    if_same (j == i) v (table j) u (λ e. here (eqb-true j i e)) (λ e. there (eqb-false j i e))

-- what is read of each value of a table
abbrev pub each : {A B : Type 0} → (A → B) → (ℕ → A) → ℕ → B
each f table j = f (table j)

ap_if : {A B : Type 0} (f : A → B) (b : Bool) (v w : A)
    → f (if b then v else w) ≡ (if b then f v else f w)
ap_if f true v w = refl
ap_if f false v w = refl

pub read_of_put : {A B : Type 0} (f : A → B) (table : ℕ → A) (i : ℕ) (v : A)
    → each f (at_put table i v) ≡ at_put (each f table) i (f v)
read_of_put f table i v x j = ap_if f (j == i) v (table j) x

-- the value that is there already
pub put_as_is : {A : Type 0} (table : ℕ → A) (i : ℕ) (v : A) → v ≡ table i → at_put table i v ≡ table
put_as_is table i v same x j =
    sym (put_is table i v j (table j) (λ e. ap table e ∙ sym same) (λ ne. refl)) x

pub read_as_is : {A B : Type 0} (f : A → B) (table : ℕ → A) (i : ℕ) (v : A) → f v ≡ f (table i)
    → each f (at_put table i v) ≡ each f table
read_as_is f table i v same = read_of_put f table i v ∙ put_as_is (each f table) i (f v) same

-- ---- a list as a table

-- a list as a table, with this value behind its end
abbrev pub listed : {A : Type 0} → A → List A → ℕ → A
listed rest list j = get_or list j rest

pub list_put : {A : Type 0} (rest : A) (list : List A) (i : ℕ) (v : A) → i < length list
    → listed rest (set list i v) ≡ at_put (listed rest list) i v
list_put rest list i v lt x j =
    put_is (listed rest list) i v j (get_or (set list i v) j rest)
    (λ e. ap (listed rest (set list i v)) e ∙ get_or-set_same list i v rest lt)
    (λ ne. get_or-set_other list i j v rest ne) x
