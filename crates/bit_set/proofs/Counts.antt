-- Counting the numbers below a bound that pass a test.
use Rattle.std.proofs.Common.{◌≡◌, ◌≢◌, ℕ, zero, suc, ◌+◌, ◌<◌, ◌≤◌, Bool, true, false, eqb, List, [], ◌∷◌}
use Rattle.std.proofs.Common.{length, refl, sym, ap, ◌∙◌, arith, inl, inr}
use Rattle.std.specs.Prelude.{◌⊎◌, ◌||◌, ◌&&◌, not}
use Rattle.std.specs.List.{list_any}
use Rattle.std.proofs.lemmas.Bool.{cases_eq, cases_Bool, eq-eqb, ne_eqb, cond-true, cond-false}
use borrow.Enum.Arm.{by_way}
use Rattle.bit_set.specs.Counts.{one_if, count_below, but_at}

-- tests that agree below n count alike
pub count_agree : (n : ℕ) (f g : ℕ → Bool) → ((k : ℕ) → k < n → f k ≡ g k) → count_below n f ≡ count_below n g
unfolding count_below
count_agree zero f g same = refl
count_agree (suc n) f g same =
    let before = count_agree n f g (λ k lt. same k (omega arith)) in
    let last : one_if (f n) ≡ one_if (g n) = ap one_if (same n (omega arith)) in
    omega arith

pub but_at-same : (f : ℕ → Bool) (at : ℕ) (value : Bool) → but_at f at value at ≡ value
but_at-same f at value = cond-true (eqb at at) value (f at) (eq-eqb at at refl)

pub but_at-other : (f : ℕ → Bool) (at : ℕ) (value : Bool) (k : ℕ) → k ≢ at → but_at f at value k ≡ f k
but_at-other f at value k ne = cond-false (eqb k at) value (f k) (ne_eqb k at ne)

-- one number's answer changed
pub count_but_at : (n : ℕ) (f : ℕ → Bool) (at : ℕ) (value : Bool) → at < n
    → count_below n (but_at f at value) + one_if (f at) ≡ count_below n f + one_if value
unfolding count_below
count_but_at zero f at value lt = absurd (omega arith)
count_but_at (suc n) f at value lt =
    by_way (cases_eq at n)
    (λ e.
    let before =
    count_agree n (but_at f at value) f
    (λ k low. but_at-other f at value k (λ same. absurd (omega (arith, e, same, low)))) in
    let last : one_if (but_at f at value n) ≡ one_if value = ap (λ k. one_if (but_at f at value k)) (sym e)
    ∙ ap one_if (but_at-same f at value) in
    let mine : one_if (f at) ≡ one_if (f n) = ap (λ k. one_if (f k)) e in
    omega arith)
    (λ ne.
    let before = count_but_at n f at value (omega arith) in
    let last : one_if (but_at f at value n) ≡ one_if (f n) =
    ap one_if (but_at-other f at value n (λ same. ne (sym same))) in
    omega arith)

pub count_le : (n : ℕ) (f g : ℕ → Bool) → ((k : ℕ) → k < n → f k ≡ true → g k ≡ true)
    → count_below n f ≤ count_below n g
unfolding count_below
count_le zero f g h = omega arith
count_le (suc n) f g h =
    let before = count_le n f g (λ k lt. h k (omega arith)) in
    let last = one_if_le (f n) (g n) (h n (omega arith)) in
    omega arith
  where
    one_if_le : (a b : Bool) → (a ≡ true → b ≡ true) → one_if a ≤ one_if b
    one_if_le false b h = omega arith
    one_if_le true b h = omega (arith, ap one_if (h refl))

one_if_or : (a b : Bool) → one_if (a || b) ≤ one_if a + one_if b
one_if_or true b = omega arith
one_if_or false b = omega arith

pub count_or : (n : ℕ) (f g : ℕ → Bool) → count_below n (λ k. f k || g k) ≤ count_below n f + count_below n g
unfolding count_below
count_or zero f g = omega arith
count_or (suc n) f g = omega (arith, count_or n f g, one_if_or (f n) (g n))

pub count_none : (n : ℕ) (f : ℕ → Bool) → ((k : ℕ) → k < n → f k ≡ false) → count_below n f ≡ 0
unfolding count_below
count_none zero f h = refl
count_none (suc n) f h =
    let before = count_none n f (λ k lt. h k (omega arith)) in
    let last : one_if (f n) ≡ 0 = ap one_if (h n (omega arith)) in
    omega arith

count_one : (n x : ℕ) → count_below n (λ k. eqb x k) ≤ 1
unfolding count_below
count_one zero x = omega arith
count_one (suc n) x =
    by_way (cases_eq x n)
    (λ e.
    let before =
    count_none n (λ k. eqb x k) (λ k lt. ne_eqb x k (λ same. absurd (omega (arith, e, same, lt)))) in
    let last : one_if (eqb x n) ≡ 1 = ap one_if (eq-eqb x n e) in
    omega arith)
    (λ ne.
    let before = count_one n x in
    let last : one_if (eqb x n) ≡ 0 = ap one_if (ne_eqb x n ne) in
    omega arith)

-- a list names no more numbers than it is long
pub count_listed : (n : ℕ) (xs : List ℕ) → count_below n (λ k. list_any (λ x. eqb x k) xs) ≤ length xs
count_listed n [] = omega (arith, count_none n (λ k. false) (λ k lt. refl))
count_listed n (x ∷ xs) =
    omega (
      arith,
      count_or n (λ k. eqb x k) (λ k. list_any (λ y. eqb y k) xs),
      count_one n x,
      count_listed n
          xs,
    )

pub search_below : (n : ℕ) (f : ℕ → Bool)
    → ((k : ℕ) × (k < n) × (f k ≡ true)) ⊎ ((k : ℕ) → k < n → f k ≡ false)
search_below zero f = inr (λ k lt. absurd (omega arith))
search_below (suc n) f =
    by_way (search_below n f)
    (λ found. let lt : found.0 < suc n = omega (arith, found.1) in inl (found.0, lt, found.2))
    (λ none. by_way (cases_Bool (f n))
    (λ yes. let lt : n < suc n = omega arith in inl (n, lt, yes))
    (λ off. inr (λ k lt. by_way (cases_eq k n) (λ e. ap f e ∙ off) (λ ne. none k (omega arith)))))

inside_from_not : (a b : Bool) → (a && not b) ≡ false → a ≡ true → b ≡ true
inside_from_not true true h e = refl
inside_from_not true false h e = let n : true ≡ false = h in cc
inside_from_not false b h e = let n : false ≡ true = e in cc

-- where more numbers pass one test than another, one passes the first alone
pub one_outside : (n : ℕ) (f g : ℕ → Bool) → count_below n g < count_below n f
    → (k : ℕ) × (k < n) × ((f k && not (g k)) ≡ true)
one_outside n f g more =
    by_way (search_below n (λ k. f k && not (g k)))
    (λ found. found)
    (λ none. absurd
    (omega (arith, more, count_le n f g (λ k lt e. inside_from_not (f k) (g k) (none k lt) e))))

pub at_most_one : (b : Bool) → one_if b ≤ 1
at_most_one true = omega arith
at_most_one false = omega arith

-- no more numbers pass than there are
pub count_at_most : (n : ℕ) (f : ℕ → Bool) → count_below n f ≤ n
unfolding count_below
count_at_most zero f = omega arith
count_at_most (suc n) f = omega (arith, count_at_most n f, at_most_one (f n))
