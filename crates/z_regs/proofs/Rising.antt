-- The place of a number among rising ones, and what is said of them with that number in its place.
use Rattle.std.proofs.Common.{◌≡◌, ◌≢◌, ℕ, suc, ◌+◌, ◌<◌, ◌≤◌, Bool, true, false, ◌||◌, cond, eqb, ltb}
use Rattle.std.proofs.Common.{List, [], ◌∷◌, add-one, length, refl, sym, ap, subst, ◌∙◌, arith, get_or, Some}
use Rattle.std.specs.Prelude.{drop, slice_get}
use Rattle.std.specs.List.{insert, list_any, fold}
use Rattle.std.proofs.Math.Bool.{or-false, or_assoc}
use Rattle.std.proofs.Math.Seq.{drop-cons}
use Rattle.std.proofs.lemmas.Bool.{eqb-true, eqb-false, ltb-true, ltb-false}
use Rattle.std.proofs.lemmas.List.{drop_all}
use Rattle.std.proofs.lemmas.List.Edits.{length-insert}
use Rattle.std.proofs.lemmas.Bool.Decides.{nat_tests}
use Rattle.z_regs.specs.Rising.{with_number, numbers_below, IsAbove, Ascends}
use Rattle.z_regs.proofs.Elements.{Order, order}
use Rattle.z_regs.proofs.Elements.Order.{Below, Same, Above}

-- ---- the place, looked for from the first number on

-- behind a number that is below it is one further
further : (x : ℕ) (rest : List ℕ) (n : ℕ) → x < n → numbers_below (x ∷ rest) n ≡ numbers_below rest n + 1
further x rest n h = grind (arith, nat_tests)

-- where the first is not below it is the first
here : (x : ℕ) (rest : List ℕ) (n : ℕ) → n ≤ x → numbers_below (x ∷ rest) n ≡ 0
here x rest n h = grind (arith, nat_tests)

-- past a number that is below
pub goes_on : (xs : List ℕ) (n i : ℕ) → i < length xs → get_or xs i 0 < n
    → numbers_below xs n ≡ numbers_below (drop i xs) n + i
    → numbers_below xs n ≡ numbers_below (drop (i + 1) xs) n + (i + 1)
goes_on xs n i inside less so =
    let next : numbers_below (drop i xs) n ≡ numbers_below (drop (suc i) xs) n + 1 =
    ap (λ ys. numbers_below ys n) (drop-cons xs i 0 inside)
    ∙ further (get_or xs i 0) (drop (suc i) xs) n less in
    rw add-one (omega arith)

-- at one that is not
pub stops : (xs : List ℕ) (n i : ℕ) → i < length xs → n ≤ get_or xs i 0
    → numbers_below xs n ≡ numbers_below (drop i xs) n + i → i ≡ numbers_below xs n
stops xs n i inside more so =
    let none : numbers_below (drop i xs) n ≡ 0 =
    ap (λ ys. numbers_below ys n) (drop-cons xs i 0 inside)
    ∙ here (get_or xs i 0) (drop (suc i) xs) n more in
    omega arith

-- behind the last one
pub ends : (xs : List ℕ) (n i : ℕ) → length xs ≤ i → i ≤ length xs
    → numbers_below xs n ≡ numbers_below (drop i xs) n + i → length xs ≡ numbers_below xs n
ends xs n i end within so =
    let none : numbers_below (drop i xs) n ≡ 0 = ap (λ ys. numbers_below ys n) (drop_all i xs end) in
    omega arith

-- ---- a number that is there, and one that is not

-- it goes behind a number that is below
pub below_is : (x : ℕ) (rest : List ℕ) (n : ℕ) → x < n → with_number (x ∷ rest) n ≡ x ∷ with_number rest n
below_is x rest n h = grind (arith, nat_tests)

-- one that is there already changes nothing
pub same_is : (rest : List ℕ) (n : ℕ) → with_number (n ∷ rest) n ≡ n ∷ rest
same_is rest n = grind (arith, nat_tests)

-- it goes in front of a number that is above
pub above_is : (x : ℕ) (rest : List ℕ) (n : ℕ) → n < x → with_number (x ∷ rest) n ≡ n ∷ x ∷ rest
above_is x rest n h = grind (arith, nat_tests)

-- it is the only one where there was none
one_is : (n : ℕ) → with_number [] n ≡ n ∷ []
one_is n = refl

-- its place behind a number that is below
place_behind : (x : ℕ) (rest : List ℕ) (n : ℕ) → x < n → numbers_below (x ∷ rest) n ≡ suc (numbers_below rest n)
place_behind x rest n h = further x rest n h ∙ add-one (numbers_below rest n)

-- where the number stands at its place nothing changes, by how the first one is to it
there_by : (x : ℕ) (rest : List ℕ) (n : ℕ) → Order x n
    → (slice_get rest (numbers_below rest n) ≡ Some n → with_number rest n ≡ rest)
    → slice_get (x ∷ rest) (numbers_below (x ∷ rest) n) ≡ Some n → with_number (x ∷ rest) n ≡ x ∷ rest
there_by x rest n (Below less) more h =
    below_is x rest n less
    ∙ ap (λ r. x ∷ r) (more (sym (ap (slice_get (x ∷ rest)) (place_behind x rest n less)) ∙ h))
there_by x rest n (Same e) more h = subst (λ y. with_number (y ∷ rest) n ≡ y ∷ rest) (sym e) (same_is rest n)
there_by x rest n (Above less) more h =
    let there : slice_get (x ∷ rest) 0 ≡ Some n =
    sym (ap (slice_get (x ∷ rest)) (here x rest n (omega arith))) ∙ h in
    let same : x ≡ n = (cc) in
    absurd (omega arith)

-- where the number stands at its place nothing changes
is_there : (xs : List ℕ) (n : ℕ) → slice_get xs (numbers_below xs n) ≡ Some n → with_number xs n ≡ xs
is_there [] n h = grind (arith, h)
is_there (x ∷ rest) n h = there_by x rest n (order x n) (is_there rest n) h

-- where it does not it is put there, by how the first one is to it
new_by : (x : ℕ) (rest : List ℕ) (n : ℕ) → Order x n
    → (slice_get rest (numbers_below rest n) ≢ Some n → insert rest (numbers_below rest n) n ≡ with_number rest n)
    → slice_get (x ∷ rest) (numbers_below (x ∷ rest) n) ≢ Some n
    → insert (x ∷ rest) (numbers_below (x ∷ rest) n) n ≡ with_number (x ∷ rest) n
new_by x rest n (Below less) more h =
    let place = place_behind x rest n less in
    ap (λ i. insert (x ∷ rest) i n) place
    ∙ ap (λ r. x ∷ r) (more (λ e. h (ap (slice_get (x ∷ rest)) place ∙ e)))
    ∙ sym (below_is x rest n less)
new_by x rest n (Same e) more h =
    absurd (h (ap (slice_get (x ∷ rest)) (here x rest n (omega arith)) ∙ ap Some e))
new_by x rest n (Above less) more h =
    ap (λ i. insert (x ∷ rest) i n) (here x rest n (omega arith)) ∙ sym (above_is x rest n less)

-- where it does not it is put there
is_new : (xs : List ℕ) (n : ℕ) → slice_get xs (numbers_below xs n) ≢ Some n
    → insert xs (numbers_below xs n) n ≡ with_number xs n
is_new [] n h = sym (one_is n)
is_new (x ∷ rest) n h = new_by x rest n (order x n) (is_new rest n) h

-- ---- the same, with the list and the place told by equations

-- what stands at the place that was found
place_is : (n place : ℕ) (xs ys zs : List ℕ) → ys ≡ xs → zs ≡ xs → place ≡ numbers_below zs n
    → slice_get ys place ≡ slice_get xs (numbers_below xs n)
place_is n place xs ys zs p q r =
    ap (λ l. slice_get l place) p ∙ ap (slice_get xs) r ∙ ap (λ l. slice_get xs (numbers_below l n)) q

-- a number that stands there changes nothing
pub stays_at : (n place : ℕ) (xs ys zs : List ℕ) → ys ≡ xs → zs ≡ xs → place ≡ numbers_below zs n
    → slice_get ys place ≡ Some n → with_number xs n ≡ xs
stays_at n place xs ys zs p q r h = is_there xs n (sym (place_is n place xs ys zs p q r) ∙ h)

-- another one is put there
pub put_at : (n place : ℕ) (xs ys zs : List ℕ) → ys ≡ xs → zs ≡ xs → place ≡ numbers_below zs n
    → slice_get ys place ≢ Some n → insert xs place n ≡ with_number xs n
put_at n place xs ys zs p q r h =
    ap (λ i. insert xs i n) (r ∙ ap (λ l. numbers_below l n) q)
    ∙ is_new xs n (λ e. h (place_is n place xs ys zs p q r ∙ e))

-- which makes one more
pub put_is_longer : (n place : ℕ) (xs ys zs : List ℕ) → ys ≡ xs → zs ≡ xs → place ≡ numbers_below zs n
    → slice_get ys place ≢ Some n → place ≤ length xs → length (with_number xs n) ≡ length xs + 1
put_is_longer n place xs ys zs p q r h within =
    ap length (sym (put_at n place xs ys zs p q r h)) ∙ length-insert xs place n within

-- ---- tests of the numbers

-- a test that is made twice
or_again : (a b : Bool) → (a || b) ≡ ((a || b) || a)
or_again true b = refl
or_again false true = refl
or_again false false = refl

-- the first of three tests made last
or_turned : (a b c : Bool) → (a || (b || c)) ≡ ((b || c) || a)
or_turned true true c = refl
or_turned true false true = refl
or_turned true false false = refl
or_turned false true c = refl
or_turned false false true = refl
or_turned false false false = refl

-- one passes a test where one did before, or the number that is put does
any_one : (p : ℕ → Bool) (found : List ℕ) (n : ℕ) → list_any p (with_number found n) ≡ (list_any p found || p n)
any_one p [] n = or-false (p n)
any_one p (y ∷ rest) n = by_order (ltb y n) (eqb y n) refl (any_one p rest n)
  where
    by_order : (less same : Bool) → eqb y n ≡ same
        → list_any p (with_number rest n) ≡ (list_any p rest || p n)
        → list_any p (cond less (y ∷ with_number rest n) (cond same (y ∷ rest) (n ∷ y ∷ rest)))
        ≡ ((p y || list_any p rest) || p n)
    by_order true same e more = ap (λ b. p y || b) more ∙ sym (or_assoc (p y) (list_any p rest) (p n))
    by_order false true e more =
        or_again (p y) (list_any p rest) ∙ ap (λ z. (p y || list_any p rest) || p z) (eqb-true y n e)
    by_order false false e more = or_turned (p n) (p y) (list_any p rest)

-- the same for several numbers that are put
pub any_all : (p : ℕ → Bool) (found ns : List ℕ)
    → list_any p (fold with_number found ns) ≡ (list_any p found || list_any p ns)
any_all p found [] = sym (or-false (list_any p found))
any_all p found (n ∷ ns) =
    any_all p (with_number found n) ns ∙ ap (λ b. b || list_any p ns) (any_one p found n)
    ∙ or_assoc (list_any p found) (p n) (list_any p ns)

-- ---- they rise

-- what is below the first and the number that is put is below the first of both
above_one : (before n : ℕ) (found : List ℕ) → IsAbove before found → before < n
    → IsAbove before (with_number found n)
above_one before n [] above less = less
above_one before n (x ∷ rest) above less = by_order (ltb x n) (eqb x n)
  where
    by_order : (less same : Bool)
        → IsAbove before (cond less (x ∷ with_number rest n) (cond same (x ∷ rest) (n ∷ x ∷ rest)))
    by_order true same = above
    by_order false true = above
    by_order false false = less

-- they rise with one more
ascends_one : (n : ℕ) (found : List ℕ) → Ascends found → Ascends (with_number found n)
ascends_one n [] h = (tt, tt)
ascends_one n (x ∷ rest) h = by_order (ltb x n) (eqb x n) refl refl (ascends_one n rest h.1)
  where
    by_order : (less same : Bool) → ltb x n ≡ less → eqb x n ≡ same → Ascends (with_number rest n)
        → Ascends (cond less (x ∷ with_number rest n) (cond same (x ∷ rest) (n ∷ x ∷ rest)))
    by_order true same p q more = (above_one x n rest h.0 (ltb-true x n p), more)
    by_order false true p q more = h
    by_order false false p q more =
        let behind = ltb-false x n p in
        let other = eqb-false x n q in (omega arith, h)

-- and with several
pub ascends_all : (found ns : List ℕ) → Ascends found → Ascends (fold with_number found ns)
ascends_all found [] h = h
ascends_all found (n ∷ ns) h = ascends_all (with_number found n) ns (ascends_one n found h)
