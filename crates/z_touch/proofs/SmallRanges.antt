-- Pages of small ranges, and sets of pages as lists.
use Rattle.std.proofs.Common.{◌≡◌, ℕ, zero, suc, ◌+◌, ◌-◌, ◌/◌, ◌<◌, ◌≤◌, Bool, true, false, cond, ◌&&◌, ◌||◌, nat_eq, leb, ltb, List, [], ◌∷◌, Option, None, Some, ◌⊎◌, ◌↔◌, inl, inr, refl, ap, sym, ◌∙◌, arith}
use Rattle.std.specs.List.{list_any, list_all, filter}
use Rattle.std.specs.Ordering.{nat_cmp}
use Rattle.std.specs.Cmp.{unsigned_tied}
use Rattle.std.specs.FinSet.{FinSet, contains, items, contains-items}
use Rattle.std.proofs.lemmas.Bool.Decides.{nat_tests}
use Rattle.std.proofs.lemmas.Bool.{cases_lt, and_parts}
use Rattle.std.specs.Prelude.{All}
use Rattle.std.proofs.lemmas.List.Elements.{All-nil, All-cons, All-head, All-tail}
use Rattle.z_instr.specs.Operands.{Span, from_up, pieces, IsSmall, is_inside}
use Rattle.z_instr.specs.Access.{accessible_pages, text_pages, absolute_page}
use Rattle.std.proofs.Math.Bool.{or-false}

any-from_up : (p first n : ℕ) → list_any (nat_eq p) (from_up first n) ≡ (leb first p && ltb p (first + n))
any-from_up p first zero = grind (arith, nat_tests)
any-from_up p first (suc n) = grind (arith, nat_tests, any-from_up p (suc first) n)

pub any-without : (p : ℕ) → list_any (nat_eq p) (accessible_pages None) ≡ (leb 2 p && ltb p 256)
unfolding accessible_pages
any-without p = any-from_up p 2 254

pub any-with : (prefix p : ℕ) → list_any (nat_eq p) (accessible_pages (Some prefix)) ≡ ltb p 256
unfolding accessible_pages
any-with prefix p = any-from_up p 0 256 ∙ grind (arith, nat_tests)

kept : (p first : ℕ) (b : Bool) (xs : List ℕ) →
    list_any (nat_eq p) (cond b (first ∷ xs) xs) ≡ ((nat_eq p first && b) || list_any (nat_eq p) xs)
kept p first true xs = grind (arith, nat_tests)
kept p first false xs = grind (arith, nat_tests)

less : (p first n : ℕ) (test : ℕ → Bool) → p < first →
    ((nat_eq p first && test first) || ((leb (suc first) p && ltb p (suc first + n)) && test p)) ≡
    ((leb first p && ltb p (first + suc n)) && test p)
less p first n test h = grind (arith, nat_tests)

same : (p first n : ℕ) (test : ℕ → Bool) → p ≡ first →
    ((nat_eq p first && test first) || ((leb (suc first) p && ltb p (suc first + n)) && test p)) ≡
    ((leb first p && ltb p (first + suc n)) && test p)
same p first n test h =
    let e : test first ≡ test p = ap test (sym h) in
    let a : nat_eq p first ≡ true = grind (arith, nat_tests) in
    let b : leb (suc first) p ≡ false = grind (arith, nat_tests) in
    let c : leb first p ≡ true = grind (arith, nat_tests) in
    let d : ltb p (first + suc n) ≡ true = grind (arith, nat_tests) in
    (λ k. (a k && e k) || ((b k && ltb p (suc first + n)) && test p)) ∙ or-false (test p)
    ∙ sym (λ k. (c k && d k) && test p)

more : (p first n : ℕ) (test : ℕ → Bool) → first < p →
    ((nat_eq p first && test first) || ((leb (suc first) p && ltb p (suc first + n)) && test p)) ≡
    ((leb first p && ltb p (first + suc n)) && test p)
more p first n test h =
    let a : nat_eq p first ≡ false = grind (arith, nat_tests) in
    let b : leb (suc first) p ≡ leb first p = grind (arith, nat_tests) in
    let c : ltb p (suc first + n) ≡ ltb p (first + suc n) = grind (arith, nat_tests) in
    λ k. (a k && test first) || ((b k && c k) && test p)

-- a number is among those that pass a test exactly where it is among them and passes
any-filter : (p first n : ℕ) (test : ℕ → Bool) →
    list_any (nat_eq p) (filter test (from_up first n)) ≡ ((leb first p && ltb p (first + n)) && test p)
any-filter p first zero test = grind (arith, nat_tests)
any-filter p first (suc n) test =
    kept p first (test first) (filter test (from_up (suc first) n))
    ∙ ap (λ b. (nat_eq p first && test first) || b) (any-filter p (suc first) n test)
    ∙ elim (cases_lt p first) [
      | inl low ↦ less p first n test low
      | inr high ↦ elim (cases_lt first p) [
        | inl above ↦ more p first n test above
        | inr there ↦ same p first n test (omega arith)
      ]
    ]

-- the text pages as a CPU sees them
pub any-text_pages : (prefix : Option ℕ) (text : List ℕ) (p : ℕ) →
    list_any (nat_eq p) (text_pages prefix text) ≡
    (ltb p 256 && list_any (nat_eq (absolute_page prefix p)) text)
unfolding text_pages
any-text_pages prefix text p =
    any-filter p 0 256 (λ page. list_any (nat_eq (absolute_page prefix page)) text) ∙ grind (arith, nat_tests)

-- a page is in the list of a set exactly where it is in the set
pub any-items : (pages : FinSet nat_cmp) (p : ℕ) → list_any (nat_eq p) (items pages) ≡ contains pages p
any-items pages p = sym (contains-items pages p ∙ (λ i. list_any (λ k. unsigned_tied p k i) (items pages)))

-- ---- the one or two pages of a small range

page_after : (first n : ℕ) → 0 < n → n ≤ 256 →
    ((first + n - 1) / 4096 ≡ first / 4096) ⊎ ((first + n - 1) / 4096 ≡ suc (first / 4096))
page_after first n some most =
    elim (cases_lt ((first + n - 1) / 4096) (suc (first / 4096))) [
      | inl same ↦ inl (omega arith)
      | inr next ↦ inr (omega arith)
    ]

and_twice : (b : Bool) → (b && true) ≡ (b && b)
and_twice true = refl
and_twice false = refl

and_true : (b c : Bool) → (b && (c && true)) ≡ (b && c)
and_true true true = refl
and_true true false = refl
and_true false c = refl

all_of_two : (t : ℕ → Bool) (f l n : ℕ) → n ≡ l + 1 - f → (l ≡ f) ⊎ (l ≡ suc f) →
    list_all t (from_up f n) ≡ (t f && t l)
all_of_two t f l n e (inl same) =
    let one : n ≡ 1 = omega arith in
    ap (λ m. list_all t (from_up f m)) one ∙ and_twice (t f) ∙ ap (λ m. t f && t m) (sym same)
all_of_two t f l n e (inr next) =
    let two : n ≡ 2 = omega arith in
    ap (λ m. list_all t (from_up f m)) two ∙ and_true (t f) (t (suc f)) ∙ ap (λ m. t f && t m) (sym next)

pub all-pieces : (t : ℕ → Bool) (s : Span) → IsSmall s →
    list_all t (pieces 4096 s) ≡ (t (s.first / 4096) && t ((s.first + s.length - 1) / 4096))
all-pieces t s small = all_of_two t _ _ _ refl (page_after s.first s.length small.some small.most)

-- ---- a range is inside exactly where its first and its last byte are

from_pages : (first n : ℕ) → 0 < n →
    ((leb 2 (first / 4096) && ltb (first / 4096) 256) &&
    (leb 2 ((first + n - 1) / 4096) && ltb ((first + n - 1) / 4096) 256)) ≡ true
    → (8192 ≤ first) × (first + n ≤ 1048576)
from_pages first n some h =
    let low : 2 ≤ first / 4096 = grind (arith, nat_tests) in
    let high : (first + n - 1) / 4096 < 256 = grind (arith, nat_tests) in
    (omega arith, omega arith)

to_pages : (first n : ℕ) → 0 < n → (8192 ≤ first) × (first + n ≤ 1048576)
    → ((leb 2 (first / 4096) && ltb (first / 4096) 256) &&
    (leb 2 ((first + n - 1) / 4096) && ltb ((first + n - 1) / 4096) 256)) ≡ true
to_pages first n some h =
    let low : 2 ≤ first / 4096 = omega arith in
    let low_end : first / 4096 < 256 = omega arith in
    let high : 2 ≤ (first + n - 1) / 4096 = omega arith in
    let high_end : (first + n - 1) / 4096 < 256 = omega arith in
    grind (arith, nat_tests)

inside-pages : (s : Span) → IsSmall s → is_inside (accessible_pages None) s ≡
    ((leb 2 (s.first / 4096) && ltb (s.first / 4096) 256)
    && (leb 2 ((s.first + s.length - 1) / 4096) && ltb ((s.first + s.length - 1) / 4096) 256))
inside-pages s small =
    all-pieces (λ p. list_any (nat_eq p) (accessible_pages None)) s small
    ∙ (λ k. any-without (s.first / 4096) k && any-without ((s.first + s.length - 1) / 4096) k)

pub inside_without : (s : Span) → IsSmall s →
    (is_inside (accessible_pages None) s ≡ true) ↔ ((8192 ≤ s.first) × (s.first + s.length ≤ 1048576))
inside_without s small = (
  λ h. from_pages s.first s.length small.some (sym (inside-pages s small) ∙ h),
  λ h. inside-pages s small ∙ to_pages s.first s.length small.some h,
)

below_end : (first n : ℕ) → 0 < n → (ltb (first / 4096) 256 && ltb ((first + n - 1) / 4096) 256) ≡ true →
    first + n ≤ 1048576
below_end first n some h =
    let high : (first + n - 1) / 4096 < 256 = grind (arith, nat_tests) in
    omega arith

from_end : (first n : ℕ) → 0 < n → first + n ≤ 1048576 →
    (ltb (first / 4096) 256 && ltb ((first + n - 1) / 4096) 256) ≡ true
from_end first n some h =
    let low : first / 4096 < 256 = omega arith in
    let high : (first + n - 1) / 4096 < 256 = omega arith in
    grind (arith, nat_tests)

pub inside_with : (p : ℕ) (s : Span) → IsSmall s →
    (is_inside (accessible_pages (Some p)) s ≡ true) ↔ (s.first + s.length ≤ 1048576)
inside_with p s small =
    let pages : is_inside (accessible_pages (Some p)) s ≡
    (ltb (s.first / 4096) 256 && ltb ((s.first + s.length - 1) / 4096) 256) =
    all-pieces (λ q. list_any (nat_eq q) (accessible_pages (Some p))) s small
    ∙ (λ k. any-with p (s.first / 4096) k && any-with p ((s.first + s.length - 1) / 4096) k) in
    let some = small.some in (
      λ h. below_end s.first s.length some (sym pages ∙ h),
      λ h. pages ∙ from_end s.first s.length some h,
    )

pub inside_ends : (prefix : Option ℕ) (s : Span) → IsSmall s → is_inside (accessible_pages prefix) s ≡ true →
    s.first + s.length ≤ 1048576
inside_ends None s small h = ((inside_without s small).0 h).1
inside_ends (Some p) s small h = (inside_with p s small).0 h

-- and so the ends of all such ranges lie in storage
pub all_end_inside : (prefix : Option ℕ) (ss : List Span) → All IsSmall ss →
    list_all (is_inside (accessible_pages prefix)) ss ≡ true → All (λ s. s.first + s.length ≤ 1048576) ss
all_end_inside prefix [] small h = All-nil (λ s. s.first + s.length ≤ 1048576)
all_end_inside prefix (s ∷ ss) small h =
    let both = and_parts (is_inside (accessible_pages prefix) s)
    (list_all (is_inside (accessible_pages prefix)) ss) h in
    All-cons (λ s. s.first + s.length ≤ 1048576) s ss (inside_ends prefix s (All-head IsSmall s ss small) both.0)
    (all_end_inside prefix ss (All-tail IsSmall s ss small) both.1)
