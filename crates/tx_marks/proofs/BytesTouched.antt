-- Places that are marked one after the other, byte by byte and operand by operand, each by what a test says of it.
use Rattle.std.proofs.Common.{◌≡◌, ℕ, zero, suc, ◌+◌, Bool, true, false, List, [], ◌∷◌, ◌++◌}
use Rattle.std.proofs.Common.{take, Option, Some, sym, ap, ◌∙◌, arith}
use Rattle.std.specs.Prelude.{◌||◌, cond, if◌then◌else◌, slice_get}
use Rattle.std.specs.List.{flat_map, filter, list_any}
use Rattle.std.proofs.lemmas.Grind.{flat_map-append}
use Rattle.std.proofs.lemmas.List.Elements.{filter-append}
use Rattle.std.proofs.lemmas.List.Folds.{list_any-append}
use Rattle.z_regs.specs.Prefix.{absolute_of}
use Rattle.z_regs.specs.declared.ranges.Range.{Range}
use Rattle.tx_lending.specs.Places.{places_from}
use Rattle.tx_needs.proofs.Ranges.{more_ranges}
use Rattle.std.proofs.Math.Bool.{or-false, or_assoc}

-- ---- bytes one after the other

-- one byte more is the last one
up_more : (test : ℕ → Bool) (prefix : Option ℕ) (first n : ℕ) → list_any test (places_from prefix first (suc n))
    ≡ (list_any test (places_from prefix first n) || test (absolute_of prefix (first + n)))
up_more test prefix first zero =
    or-false (test (absolute_of prefix first))
    ∙ ap (λ b. test (absolute_of prefix b)) (omega arith)
up_more test prefix first (suc n) =
    let next : suc first + n ≡ first + suc n = omega arith in
    ap (λ b. test (absolute_of prefix first) || b)
    (up_more test prefix (suc first) n
    ∙ ap (λ b. list_any test (places_from prefix (suc first) n) || test (absolute_of prefix b)) next)
    ∙ sym (or_assoc (test (absolute_of prefix first)) (list_any test (places_from prefix (suc first) n))
    (test (absolute_of prefix (first + suc n))))

-- marks of so many bytes, and of one more
pub up_marked : (test : ℕ → Bool) (prefix : Option ℕ) (first n : ℕ) (old so_far now : Bool)
    → so_far ≡ (old || list_any test (places_from prefix first n))
    → now ≡ (so_far || test (absolute_of prefix (first + n)))
    → now ≡ (old || list_any test (places_from prefix first (n + 1)))
up_marked test prefix first n old so_far now before one =
    let e : suc n ≡ n + 1 = omega arith in
    let last : Bool = test (absolute_of prefix (first + n)) in
    one ∙ ap (λ b. b || last) before
    ∙ or_assoc old (list_any test (places_from prefix first n)) last
    ∙ ap (λ b. old || b) (sym (up_more test prefix first n))
    ∙ ap (λ k. old || list_any test (places_from prefix first k)) e

-- ---- operands one after the other

any_more : (test : ℕ → Bool) (places : Range → List ℕ) (rs : List Range) (r : Range)
    → list_any test (flat_map places (rs ++ r ∷ []))
    ≡ (list_any test (flat_map places rs) || list_any test (places r))
any_more test places rs r =
    ap (list_any test) (flat_map-append places rs (r ∷ []))
    ∙ list_any-append test (flat_map places rs) (places r ++ [])
    ∙ ap (λ b. list_any test (flat_map places rs) || b)
    (list_any-append test (places r) [] ∙ or-false (list_any test (places r)))

-- marks of the first operands, and of one more
pub operand_marked : (test : ℕ → Bool) (places : Range → List ℕ) (ranges : List Range) (i : ℕ) (r : Range)
    (old so_far now : Bool) → slice_get ranges i ≡ Some r
    → so_far ≡ (old || list_any test (flat_map places (take i ranges)))
    → now ≡ (so_far || list_any test (places r))
    → now ≡ (old || list_any test (flat_map places (take (i + 1) ranges)))
operand_marked test places ranges i r old so_far now at before one =
    one ∙ ap (λ b. b || list_any test (places r)) before
    ∙ or_assoc old (list_any test (flat_map places (take i ranges))) (list_any test (places r))
    ∙ ap (λ b. old || b) (sym (ap (λ xs. list_any test (flat_map places xs)) (more_ranges ranges i r at)
    ∙ any_more test places (take i ranges) r))

-- ---- operands that are stored, one after the other

-- those of one operand more: it is stored or not
stored_by : (stored : Bool) (test : ℕ → Bool) (places : Range → List ℕ) (rs : List Range) (r : Range)
    → list_any test (flat_map places (rs ++ cond stored (r ∷ []) []))
    ≡ (list_any test (flat_map places rs) || (if stored then list_any test (places r) else false))
stored_by true test places rs r = any_more test places rs r
stored_by false test places rs r =
    ap (list_any test) (flat_map-append places rs [])
    ∙ list_any-append test (flat_map places rs) []

stored_more : (test : ℕ → Bool) (places : Range → List ℕ) (ranges : List Range) (i : ℕ) (r : Range)
    → slice_get ranges i ≡ Some r
    → list_any test (flat_map places (filter (λ x. x.store) (take (i + 1) ranges)))
    ≡ (list_any test (flat_map places (filter (λ x. x.store) (take i ranges)))
    || (if r.store then list_any test (places r) else false))
stored_more test places ranges i r at =
    ap (λ xs. list_any test (flat_map places (filter (λ x. x.store) xs))) (more_ranges ranges i r at)
    ∙ ap (λ xs. list_any test (flat_map places xs)) (filter-append (λ x. x.store) (take i ranges) (r ∷ []))
    ∙ stored_by r.store test places (filter (λ x. x.store) (take i ranges)) r

-- marks of the first operands that are stored, and of one more where it is stored
pub stored_marked : (test : ℕ → Bool) (places : Range → List ℕ) (ranges : List Range) (i : ℕ) (r : Range)
    (old so_far now : Bool) → slice_get ranges i ≡ Some r
    → so_far ≡ (old || list_any test (flat_map places (filter (λ x. x.store) (take i ranges))))
    → now ≡ (so_far || (if r.store then list_any test (places r) else false))
    → now ≡ (old || list_any test (flat_map places (filter (λ x. x.store) (take (i + 1) ranges))))
stored_marked test places ranges i r old so_far now at before one =
    let some = list_any test (flat_map places (filter (λ x. x.store) (take i ranges))) in
    let its = if r.store then list_any test (places r) else false in
    one ∙ ap (λ b. b || its) before ∙ or_assoc old some its
    ∙ ap (λ b. old || b) (sym (stored_more test places ranges i r at))
