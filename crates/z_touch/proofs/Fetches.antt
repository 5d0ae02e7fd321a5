-- Fetches, byte by byte.
use Rattle.std.proofs.Common.{◌≡◌, ℕ, zero, suc, ◌+◌, ◌/◌, ◌<◌, ◌≤◌, false, not, nat_eq, List, [], ◌∷◌, map, Option, None, Some, ◌%◌, refl, ap, ◌∙◌, arith}
use Rattle.std.specs.List.{list_any}
use Rattle.std.proofs.lemmas.Bool.Decides.{nat_tests}
use Rattle.z_instr.specs.Operands.{from_up, where_wrong, addressing, protection}
use Rattle.z_instr.specs.Access.{accessible_pages, byte_unfetched, first_some, lies_in}
use Rattle.z_touch.proofs.SmallRanges.{any-without, any-with}

or_later : (o : Option ℕ) (xs ys : List (Option ℕ)) (code : ℕ) → first_some (o ∷ xs) ≡ None →
    (first_some xs ≡ None → first_some ys ≡ Some code) → first_some (o ∷ ys) ≡ Some code
or_later None xs ys code before later = later before
or_later (Some c) xs ys code before later = absurd (cc)

-- the first byte that is refused decides
pub first_refused : (f : ℕ → Option ℕ) (a k n code : ℕ) → k < n →
    first_some (map f (from_up a k)) ≡ None → f (a + k) ≡ Some code →
    first_some (map f (from_up a n)) ≡ Some code
first_refused f a k zero code h before here = absurd (omega arith)
first_refused f a zero (suc n) code h before here =
    ap (λ o. first_some (o ∷ map f (from_up (suc a) n))) (ap f (let e : a ≡ a + 0 = omega arith in e) ∙ here)
first_refused f a (suc k) (suc n) code h before here =
    or_later (f a) (map f (from_up (suc a) k)) (map f (from_up (suc a) n)) code before
    (λ b. first_refused f (suc a) k n code (omega arith) b
    (ap f (let e : suc a + k ≡ a + suc k = omega arith in e) ∙ here))

and_then : (o : Option ℕ) (xs ys : List (Option ℕ)) → first_some (o ∷ xs) ≡ None →
    (first_some xs ≡ None → first_some ys ≡ None) → first_some (o ∷ ys) ≡ None
and_then None xs ys before later = later before
and_then (Some c) xs ys before later = absurd (cc)

-- one byte more is fetched
pub one_more : (f : ℕ → Option ℕ) (a k n : ℕ) → n ≡ k + 1 →
    first_some (map f (from_up a k)) ≡ None → f (a + k) ≡ None → first_some (map f (from_up a n)) ≡ None
one_more f a k zero e before here = absurd (omega arith)
one_more f a zero (suc n) e before here =
    let none : n ≡ 0 = omega arith in
    ap (λ m. first_some (f a ∷ map f (from_up (suc a) m))) none
    ∙ ap (λ o. first_some (o ∷ [])) (ap f (let e : a ≡ a + 0 = omega arith in e) ∙ here)
one_more f a (suc k) (suc n) e before here =
    and_then (f a) (map f (from_up (suc a) k)) (map f (from_up (suc a) n)) before
    (λ b. one_more f (suc a) k n (omega arith) b (ap f (let e : suc a + k ≡ a + suc k = omega arith in e)
    ∙ here))

-- nothing is fetched from beyond storage
closed : (prefix : Option ℕ) (page : ℕ) → 256 ≤ page →
    list_any (nat_eq page) (accessible_pages prefix) ≡ false
closed None page h = any-without page ∙ grind (arith, nat_tests)
closed (Some p) page h = any-with p page ∙ grind (arith, nat_tests)

pub beyond_storage : (prefix : Option ℕ) (text : List ℕ) (a n : ℕ) → 1048576 ≤ a → 0 < n →
    first_some (map (byte_unfetched (accessible_pages prefix) text) (from_up a n)) ≡ Some addressing
beyond_storage prefix text a zero h some = absurd (omega arith)
beyond_storage prefix text a (suc n) h some =
    let shut : list_any (nat_eq (a / 4096)) (accessible_pages prefix) ≡ false =
    closed prefix (a / 4096) (omega arith) in
    ap (λ b. first_some (where_wrong (not b) addressing (where_wrong (not (lies_in text a)) protection None) ∷
    map (byte_unfetched (accessible_pages prefix) text) (from_up (suc a) n))) shut

-- ---- bytes in one page

same_pages : (accessible text : List ℕ) (a b : ℕ) → a / 4096 ≡ b / 4096
    → byte_unfetched accessible text a ≡ byte_unfetched accessible text b
same_pages accessible text a b e =
    ap (λ p. where_wrong (not (list_any (nat_eq p) accessible)) addressing
    (where_wrong (not (list_any (nat_eq p) text)) protection None)) e

one_by_one : (f : ℕ → Option ℕ) (a n : ℕ) → ((k : ℕ) → k < n → f (a + k) ≡ None)
    → first_some (map f (from_up a n)) ≡ None
one_by_one f a zero same = refl
one_by_one f a (suc n) same =
    one_more f a n (suc n) (omega arith) (one_by_one f a n (λ k lt. same k (omega (arith, lt))))
    (same n (omega arith))

all_alike : (f : ℕ → Option ℕ) (a n : ℕ) (o : Option ℕ) → 0 < n → ((k : ℕ) → k < n → f (a + k) ≡ o)
    → first_some (map f (from_up a n)) ≡ o
all_alike f a zero o some same = absurd (omega arith)
all_alike f a (suc n) None some same =
    one_by_one f a (suc n) (λ k lt. same k lt)
all_alike f a (suc n) (Some code) some same =
    ap (λ o. first_some (o ∷ map f (from_up (suc a) n)))
    (ap f (let e : a ≡ a + 0 = omega arith in e) ∙ same 0 (omega arith))

-- the first byte decides
pub first_decides : (accessible text : List ℕ) (a n : ℕ) → 0 < n → a % 4096 + n ≤ 4096
    → first_some (map (byte_unfetched accessible text) (from_up a n)) ≡ byte_unfetched accessible text a
first_decides accessible text a n some within =
    all_alike (byte_unfetched accessible text) a n (byte_unfetched accessible text a) some
    (λ k lt. same_pages accessible text (a + k) a (omega (arith, within, lt)))
