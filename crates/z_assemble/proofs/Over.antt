-- A list that is written over another, element by element.
use Rattle.std.proofs.Common.{◌≡◌, ℕ, zero, suc, ◌+◌, ◌-◌, ◌<◌, ◌≤◌, List, [], ◌∷◌, ◌++◌, length, get_or}
use Rattle.std.proofs.Common.{take, drop, replicate, refl, ap, ◌∙◌, arith, inl, inr}
use Rattle.std.proofs.lemmas.List.{length-take-le, length-drop, length-append, get_or-take, get_or-drop}
use Rattle.std.proofs.lemmas.List.{take-append-drop, length-replicate}
use Rattle.std.proofs.lemmas.Bool.{cases_lt}
use Rattle.z_reading.specs.Text.{write_at, copies}

-- ---- elements of two lists together

get_left : {X : Type 0} (xs ys : List X) (k : ℕ) (d : X) → k < length xs →
    get_or (xs ++ ys) k d ≡ get_or xs k d
get_left [] ys k d h = absurd (omega arith)
get_left (x ∷ xs) ys zero d h = refl
get_left (x ∷ xs) ys (suc k) d h = get_left xs ys k d (omega arith)

get_right : {X : Type 0} (xs ys : List X) (k j : ℕ) (d : X) → k ≡ length xs + j →
    get_or (xs ++ ys) k d ≡ get_or ys j d
get_right [] ys k j d h = ap (λ q. get_or ys q d) (omega arith)
get_right (x ∷ xs) ys zero j d h = absurd (omega arith)
get_right (x ∷ xs) ys (suc k) j d h = get_right xs ys k j d (omega arith)

-- ---- writing

-- what is written has room, unless it is nothing
abbrev pub HasRoom : {X : Type 0} → ℕ → List X → List X → Type 0
HasRoom at new old = 0 < length new → at + length new ≤ length old

written_none : {X : Type 0} (at : ℕ) (old : List X) → write_at at [] old ≡ old
unfolding write_at
written_none at old = let e : at + 0 ≡ at = omega arith in ap (λ q. take at old ++ drop q old) e
    ∙ take-append-drop at old

pub write_size : {X : Type 0} (at : ℕ) (new old : List X) → HasRoom at new old →
    length (write_at at new old) ≡ length old
unfolding write_at
write_size at [] old h = ap length (written_none at old)
write_size {X} at (x ∷ xs) old h =
    let f : at + length (x ∷ xs) ≤ length old = h (omega arith) in
    let rest = drop (at + length (x ∷ xs)) old in
    let a : length (take at old) ≡ at = length-take-le at old (omega arith) in
    let b : length rest ≡ length old - (at + length (x ∷ xs)) = length-drop (at + length (x ∷ xs)) old in
    let c : length ((x ∷ xs) ++ rest) ≡ length (x ∷ xs) + length rest = length-append (x ∷ xs) rest in
    length-append (take at old) ((x ∷ xs) ++ rest) ∙ (omega arith)

pub write_before : {X : Type 0} (at : ℕ) (new old : List X) (k : ℕ) (d : X) → at ≤ length old → k < at →
    get_or (write_at at new old) k d ≡ get_or old k d
unfolding write_at
write_before at new old k d l h =
    let a : length (take at old) ≡ at = length-take-le at old l in
    get_left (take at old) (new ++ drop (at + length new) old) k d (omega arith) ∙ get_or-take at old k d h

pub write_inside : {X : Type 0} (at : ℕ) (new old : List X) (j : ℕ) (d : X) → at ≤ length old →
    j < length new → get_or (write_at at new old) (at + j) d ≡ get_or new j d
unfolding write_at
write_inside at new old j d l h =
    let a : length (take at old) ≡ at = length-take-le at old l in
    get_right (take at old) (new ++ drop (at + length new) old) (at + j) j d (omega arith)
    ∙ get_left new (drop (at + length new) old) j d h

pub write_behind : {X : Type 0} (at : ℕ) (new old : List X) (k : ℕ) (d : X) → at ≤ length old →
    at + length new ≤ k → get_or (write_at at new old) k d ≡ get_or old k d
unfolding write_at
write_behind at new old k d l h =
    let a : length (take at old) ≡ at = length-take-le at old l in
    let i : ℕ = k - (at + length new) in
    let e : at + length new + i ≡ k = omega arith in
    get_right (take at old) (new ++ drop (at + length new) old) k (length new + i) d (omega arith)
    ∙ get_right new (drop (at + length new) old) (length new + i) i d refl
    ∙ get_or-drop (at + length new) old i d
    ∙ ap (λ q. get_or old q d) e

pub write_other : {X : Type 0} (at : ℕ) (new old : List X) (k : ℕ) (d : X) → HasRoom at new old →
    (at ≤ k → k < at + length new → ⊥) → get_or (write_at at new old) k d ≡ get_or old k d
write_other at [] old k d h o = ap (λ q. get_or q k d) (written_none at old)
write_other {X} at (x ∷ xs) old k d h o =
    let f : at + length (x ∷ xs) ≤ length old = h (omega arith) in
    elim (cases_lt k at) [
      | inl l ↦ write_before at (x ∷ xs) old k d (omega arith) l
      | inr g ↦ elim (cases_lt k (at + length (x ∷ xs))) [
        | inl l ↦ absurd (o g l)
        | inr b ↦ write_behind at (x ∷ xs) old k d (omega arith) b
      ]
    ]

-- ---- copies

pub copies_size : {X : Type 0} (n : ℕ) (x : X) → length (copies n x) ≡ n
unfolding copies
copies_size n x = length-replicate n x

get_replicate : {X : Type 0} (n : ℕ) (x : X) (k : ℕ) → get_or (replicate n x) k x ≡ x
get_replicate zero x k = refl
get_replicate (suc n) x zero = refl
get_replicate (suc n) x (suc k) = get_replicate n x k

get_replicated : {X : Type 0} (n : ℕ) (x : X) (k : ℕ) (d : X) → k < n → get_or (replicate n x) k d ≡ x
get_replicated zero x k d h = absurd (omega arith)
get_replicated (suc n) x zero d h = refl
get_replicated (suc n) x (suc k) d h = get_replicated n x k d (omega arith)

pub copies_at : {X : Type 0} (n : ℕ) (x : X) (k : ℕ) → get_or (copies n x) k x ≡ x
unfolding copies
copies_at n x k = get_replicate n x k

pub copies_inside : {X : Type 0} (n : ℕ) (x : X) (k : ℕ) (d : X) → k < n → get_or (copies n x) k d ≡ x
unfolding copies
copies_inside n x k d h = get_replicated n x k d h
