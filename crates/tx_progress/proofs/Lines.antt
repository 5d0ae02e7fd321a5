-- Every byte that a run has touched lies in a line of its footprint.
use Rattle.std.proofs.Common.{◌≡◌, ◌≢◌, ℕ, zero, suc, ◌+◌, ◌*◌, ◌/◌, ◌≤◌, Bool, true, false, List, [], ◌∷◌}
use Rattle.std.proofs.Common.{◌++◌, Option, refl, sym, ap, subst, ◌∙◌, arith, map, ltb}
use Rattle.std.specs.Prelude.{◌||◌, ◌&&◌, not, nat_eq, ◌==◌}
use Rattle.std.specs.List.{list_any, flat_map}
use Rattle.std.proofs.lemmas.Bool.{or_left, or_right, true≢false, and_parts}
use Rattle.std.proofs.lemmas.List.Folds.{list_any-append}
use Rattle.std.proofs.lemmas.List.Concat.{flat_map-append}
use Rattle.std.proofs.Math.Bool.{or-false}
use Rattle.z_regs.specs.Prefix.{absolute_of, is_prefix, area_size}
use Rattle.z_regs.specs.Absolute.{absolute_range, absolute_ranges, addresses_of}
use Rattle.z_regs.specs.declared.ranges.Range.{Range}
use Rattle.z_regs.proofs.MovedBytes.{same_bytes, same_pages}
use Rattle.z_instr.specs.Access.{lies_in, text_pages, absolute_page}
use Rattle.z_instr.specs.Operands.{from_up}
use Rattle.tx_serial.proofs.SmallRanges.{any-text_pages}
use Rattle.tx_constraint.specs.Constraints.{Step}
use Rattle.tx_footprint.specs.Places.{has_place}
use Rattle.tx_footprint.specs.Sizes.{line_size}
use Rattle.tx_footprint.proofs.Limits as sets
use Rattle.tx_serial.specs.Flat.{FlatState}
use Rattle.tx_serial.specs.Attempt.{Run, Missing, footprint}
use Rattle.tx_serial.specs.Alike as alike
use Rattle.tx_serial.specs.Alike.{addresses_in, touched_addresses}
use Rattle.tx_serial.specs.Fate.{step_of}
use Rattle.tx_serial.specs.Run.{run}
use Rattle.tx_serial.proofs.Copies.{run_prefix}
use Rattle.tx_serial.proofs.Passing.{passes}
use Rattle.tx_progress.proofs.OneMore.{went, open_is_there}
use Rattle.tx_serial.proofs.StoredPlaces.{AreSmall, small_operands, up_is_range}

-- ---- one range

abbrev pub seen_test : Option ℕ → (ℕ → Bool) → ℕ → Bool
seen_test prefix test a = test (absolute_of prefix a)

abbrev pub any_there : (ℕ → Bool) → List Range → Bool
any_there test ranges = list_any (λ r. list_any test (addresses_of r)) ranges

any_map : (test : ℕ → Bool) (f : ℕ → ℕ) (xs : List ℕ) → list_any test (map f xs) ≡ list_any (λ a. test (f a))
    xs
any_map test f [] = refl
any_map test f (x ∷ xs) = ap (λ b. test (f x) || b) (any_map test f xs)

any_flat : (test : ℕ → Bool) (rs : List Range)
    → list_any test (flat_map addresses_of rs) ≡ any_there test rs
any_flat test [] = refl
any_flat test (r ∷ rs) =
    list_any-append test (addresses_of r) (flat_map addresses_of rs)
    ∙ ap (λ b. list_any test (addresses_of r) || b) (any_flat test rs)

pub range_there : (test : ℕ → Bool) (prefix : Option ℕ) (r : Range) → is_prefix prefix ≡ true
    → r.length ≤ area_size
    → list_any (seen_test prefix test) (from_up r.first r.length) ≡ any_there test (absolute_range prefix r)
range_there test prefix r ok small =
    ap (list_any (seen_test prefix test)) (up_is_range r.length r.first)
    ∙ sym (any_map test (absolute_of prefix) (addresses_of r))
    ∙ ap (list_any test) (sym (same_bytes prefix r ok small))
    ∙ any_flat test (absolute_range prefix r)

-- ---- all operands of an instruction

ranges_there : (test : ℕ → Bool) (prefix : Option ℕ) (rs : List Range) → is_prefix prefix ≡ true → AreSmall rs
    → list_any (seen_test prefix test) (addresses_in rs) ≡ any_there test (absolute_ranges prefix rs)
ranges_there test prefix [] ok small = refl
ranges_there test prefix (r ∷ rs) ok small =
    list_any-append (seen_test prefix test) (from_up r.first r.length) (addresses_in rs)
    ∙ ap (λ b. b || list_any (seen_test prefix test) (addresses_in rs)) (range_there test prefix r ok small.0)
    ∙ ap (λ b. any_there test (absolute_range prefix r) || b) (ranges_there test prefix rs ok small.1)
    ∙ sym (list_any-append (λ q. list_any test (addresses_of q)) (absolute_range prefix r)
    (absolute_ranges prefix rs))

-- ---- along a run

abbrev AreThere : (ℕ → Bool) → Option ℕ → List Step → List Range → Type 0
AreThere test prefix steps touched =
    list_any (seen_test prefix test) (alike.addresses_of steps) ≡ any_there test touched

there_more : (test : ℕ → Bool) (prefix : Option ℕ) (steps : List Step) (touched : List Range) (s : Step)
    → is_prefix prefix ≡ true → AreSmall s.ranges → AreThere test prefix steps touched
    → AreThere test prefix (steps ++ s ∷ []) (touched ++ absolute_ranges prefix s.ranges)
there_more test prefix steps touched s ok small old =
    ap (list_any (seen_test prefix test)) (flat_map-append (λ (x : Step). addresses_in x.ranges) steps (s ∷
    []))
    ∙ list_any-append (seen_test prefix test) (alike.addresses_of steps) (addresses_in s.ranges ++ [])
    ∙ ap (λ b. b || list_any (seen_test prefix test) (addresses_in s.ranges ++ [])) old
    ∙ ap (λ b. any_there test touched || b)
    (list_any-append (seen_test prefix test) (addresses_in s.ranges) []
    ∙ or-false (list_any (seen_test prefix test) (addresses_in s.ranges))
    ∙ ranges_there test prefix s.ranges ok small)
    ∙ sym (list_any-append (λ q. list_any test (addresses_of q)) touched (absolute_ranges prefix s.ranges))

pub run_there : (test : ℕ → Bool) (f : FlatState) (i k : ℕ) → is_prefix (f.cpus i).prefix ≡ true
    → (run f i k).mark ≢ Missing
    → AreThere test (f.cpus i).prefix (run f i k).steps (run f i k).touched
unfolding run
run_there test f i zero ok exists = refl
run_there test f i (suc k) ok exists =
    let p = run f i k in
    let w = went f i k exists in
    let pass = passes f.text p w.instruction w.ranges w.goes in
    let small = subst AreSmall (sym pass.touches) (small_operands w.instruction p.cpu) in
    subst (λ (r : Run). AreThere test (f.cpus i).prefix r.steps r.touched) (sym w.is)
    (subst (λ x. AreThere test (f.cpus i).prefix (p.steps ++ step_of w.instruction w.ranges p.cpu ∷ [])
    (p.touched ++ absolute_ranges x w.ranges)) (sym (run_prefix f i k))
    (there_more test (f.cpus i).prefix p.steps p.touched (step_of w.instruction w.ranges p.cpu) ok small
    (run_there test f i k ok (open_is_there p.mark w.opens))))

-- ---- lines

at_one : (test : ℕ → Bool) (a x : ℕ) (xs : List ℕ) (b : Bool) → nat_eq a x ≡ b
    → (b || list_any (nat_eq a) xs) ≡ true
    → test a ≡ true → (list_any (nat_eq a) xs ≡ true → list_any test xs ≡ true) → (test x || list_any test
    xs) ≡ true
at_one test a x xs true e h t more =
    let same : a ≡ x = grind (arith, e) in or_left (test x) (list_any test xs) (ap test (sym same) ∙ t)
at_one test a x xs false e h t more = or_right (test x) (list_any test xs) (more h)

some_passes : (test : ℕ → Bool) (a : ℕ) (xs : List ℕ) → list_any (nat_eq a) xs ≡ true → test a ≡ true
    → list_any test xs ≡ true
some_passes test a [] h t = absurd (true≢false (sym h))
some_passes test a (x ∷ xs) h t = at_one test a x xs (nat_eq a x) refl h t (λ g. some_passes test a xs g t)

pub either_way : (test : Range → Bool) (rs : List Range)
    → list_any test rs
    ≡ (list_any (λ r. not r.store && test r) rs || list_any (λ r. r.store && test r) rs)
either_way test [] = refl
either_way test (r ∷ rs) =
    ap (λ b. test r || b) (either_way test rs)
    ∙ sets.either_way r.store (test r) (list_any (λ r. not r.store && test r) rs) (list_any (λ r. r.store && test r) rs)

pub touched_lines : (f : FlatState) (i k a : ℕ) → is_prefix (f.cpus i).prefix ≡ true
    → (run f i k).mark ≢ Missing → list_any (nat_eq a) (touched_addresses (run f i k)) ≡ true
    → ((footprint (run f i k)).fetched (absolute_of (f.cpus i).prefix a / line_size)
    || (footprint (run f i k)).stored (absolute_of (f.cpus i).prefix a / line_size)) ≡ true
unfolding has_place
touched_lines f i k a ok exists h =
    let line = absolute_of (f.cpus i).prefix a / line_size in
    let test = λ (b : ℕ). b / line_size == line in
    let here : (line == line) ≡ true = grind (arith) in
    sym (either_way (λ r. has_place line_size r line) (run f i k).touched)
    ∙ sym (run_there test f i k ok exists)
    ∙ some_passes (seen_test (f.cpus i).prefix test) a (touched_addresses (run f i k)) h here

-- ---- text

-- a real address in a text page is text by its absolute address
pub text_there : (prefix : Option ℕ) (text : List ℕ) (a : ℕ) → is_prefix prefix ≡ true
    → lies_in (text_pages prefix text) a ≡ true → lies_in text (absolute_of prefix a) ≡ true
text_there prefix text a ok h =
    let page : absolute_of prefix a / 4096 ≡ absolute_page prefix (a / 4096) =
    (same_pages prefix a (a / 4096 * 4096) ok).1 (omega arith) in
    ap (λ p. list_any (nat_eq p) text) page
    ∙ (and_parts (ltb (a / 4096) 256) (list_any (nat_eq (absolute_page prefix (a / 4096))) text)
    (sym (any-text_pages prefix text (a / 4096)) ∙ h)).1
