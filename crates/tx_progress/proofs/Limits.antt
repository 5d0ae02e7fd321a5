-- The footprint of an open run keeps the limits, and lies in storage.
use Rattle.std.proofs.Common.{◌≡◌, ◌≢◌, ℕ, zero, suc, ◌+◌, ◌/◌, ◌<◌, ◌≤◌, Bool, true, false, List, [], ◌∷◌}
use Rattle.std.proofs.Common.{◌++◌}
use Rattle.std.proofs.Common.{Option, Some, None, refl, sym, ap, subst, ◌∙◌, arith, length, map, Ok, Err}
use Rattle.std.specs.Prelude.{if◌then◌else◌, ◌||◌, nat_lt, ◌==◌}
use Rattle.std.specs.List.{list_any, list_all, All}
use Rattle.std.proofs.lemmas.Bool.{true≢false, and_parts, and_from, ltb-true, ltb-false, lt-ltb}
use Rattle.std.proofs.lemmas.List.Elements.{All-head, All-tail}
use Rattle.std.proofs.lemmas.List.Folds.{list_all-append}
use Rattle.std.proofs.lemmas.List.Concat.{flat_map-append}
use Rattle.bit_set.proofs.Counts.{count_none}
use Rattle.z_regs.specs.Cpu.{Cpu}
use Rattle.z_regs.specs.Absolute.{absolute_ranges}
use Rattle.z_regs.specs.Prefix.{absolute_of, is_prefix, storage_size}
use Rattle.z_regs.proofs.Exchange.{absolute_within}
use Rattle.z_instr.specs.Access.{accessible_pages}
use Rattle.z_instr.specs.Operands.{Span, IsSmall, from_up, spans, tested_spans, is_inside}
use Rattle.z_instr.specs.Operands.{inaccessible_in, addressing}
use Rattle.z_instr.specs.Roles.{begins}
use Rattle.z_instr.specs.Table.{entry_at}
use Rattle.z_instr.specs.declared.instr.Instr.{Instr}
use Rattle.z_instr.specs.declared.operand.Demand.TheVariants.{Begin}
use Rattle.z_instr.proofs.SmallOperands.{sizes}
use Rattle.tx_serial.specs.Refusals.{range_of}
use Rattle.tx_serial.proofs.SmallRanges.{inside_ends}
use Rattle.tx_control.specs.declared.begins.Begin as begins_of
use Rattle.tx_footprint.specs.LineTableSizes.{storage_lines}
use Rattle.tx_constraint.specs.Constraints.{Step}
use Rattle.tx_footprint.specs.Places.{has_place}
use Rattle.tx_footprint.specs.Touched.{Sets, untouched, touching, line_count, block_count, fit_of}
use Rattle.tx_footprint.specs.declared.footprint.Overflow.TheVariants.{Fetch, Store}
use Rattle.tx_footprint.specs.Sizes.{line_limit, block_limit}
use Rattle.tx_footprint.specs.Sizes.{line_size, storage_blocks}
use Rattle.tx_serial.specs.Alike as alike
use Rattle.tx_serial.specs.Alike.{addresses_in}
use Rattle.tx_serial.specs.Attempt.{Run, Missing, footprint}
use Rattle.tx_serial.specs.Fate.{operands, step_of, operand_refusal, overflow_refusal}
use Rattle.tx_serial.specs.Fate.{overflow_of, overflow_in}
use Rattle.tx_serial.specs.Flat.{FlatState}
use Rattle.tx_serial.specs.Run.{run, may_follow}
use Rattle.tx_serial.proofs.Passing.{passes}
use Rattle.tx_progress.specs.Local.{Local}
use Rattle.tx_progress.specs.Reached.{IsFollowed}
use Rattle.tx_progress.specs.Followed.{KeepsLimits}
use Rattle.tx_progress.proofs.OneMore.{went, open_is_there}
use Rattle.tx_progress.proofs.Standing.{tests_find_nothing}
use Rattle.tx_progress.proofs.Lines.{run_there, seen_test, either_way}
use Rattle.tx_progress.proofs.Alike.{its_footprint}
use Rattle.tx_progress.proofs.Facts.{stored_line, lasting_line}
use Rattle.std.proofs.lemmas.Bool.{or_right}
use Rattle.tx_serial.proofs.FreeOperands.{not_excepted, begin_bare}
use Rattle.std.proofs.Math.Bool.{or-false}
use Rattle.tx_footprint.proofs.Marking.{touching_twice}
use Rattle.tx_serial.proofs.Reach.{accessible, tested_all}
use Rattle.tx_progress.specs.Trial.{breach_refusal}

-- ---- a begin has no operand

-- ---- limits

fits_by : (x y : Bool) → overflow_of (if x then Err Fetch else (if y then Err Store else Ok tt)) ≡ None
    → (x ≡ false) × (y ≡ false)
fits_by true y h = absurd (cc)
fits_by false true h = absurd (cc)
fits_by false false h = (refl, refl)

keeps_limits : (sets : Sets) → overflow_of (fit_of sets) ≡ None → KeepsLimits sets
keeps_limits sets h =
    let b = fits_by (nat_lt line_limit (line_count sets)) (nat_lt block_limit (block_count sets)) h in
    record {
      lines = ltb-false line_limit (line_count sets) b.0;
      blocks = ltb-false block_limit (block_count sets) b.1;
    }

untouched_keeps : KeepsLimits untouched
untouched_keeps =
    let lines = count_none storage_lines (λ line. false || false) (λ k h. refl) in
    let blocks = count_none storage_blocks (λ block. false) (λ k h. refl) in
    record { lines = omega (arith, lines); blocks = omega (arith, blocks) }

touching_none : (sets : Sets) → sets ≡ touching sets []
touching_none sets k = record {
  fetched = λ line. sym (or-false (sets.fetched line)) k;
  stored = λ line. sym (or-false (sets.stored line)) k;
  blocks = λ block. sym (or-false (sets.blocks block)) k;
}

limits_more : (text : List ℕ) (p : Run) (i : Instr) → KeepsLimits (footprint p) → may_follow p.nest i ≡ true
    → overflow_refusal p i ≡ None
    → KeepsLimits (touching (footprint p) (absolute_ranges p.cpu.prefix (operands i p.cpu)))
limits_more text p i old follows none = by p.nest follows none
  where
    by : (nest : List begins_of.Begin) → may_follow nest i ≡ true
        → overflow_in nest (touching (footprint p) (absolute_ranges p.cpu.prefix (operands i p.cpu))) ≡ None
        → KeepsLimits (touching (footprint p) (absolute_ranges p.cpu.prefix (operands i p.cpu)))
    by [] f n =
        subst (λ rs. KeepsLimits (touching (footprint p) (absolute_ranges p.cpu.prefix rs)))
        (sym (begin_bare i p.cpu f)) (subst KeepsLimits (touching_none (footprint p)) old)
    by (b ∷ bs) f n = keeps_limits (touching (footprint p) (absolute_ranges p.cpu.prefix (operands i p.cpu)))
        n

run_limits : (f : FlatState) (i k : ℕ) → (run f i k).mark ≢ Missing → KeepsLimits (footprint (run f i k))
unfolding run
run_limits f i zero exists = untouched_keeps
run_limits f i (suc k) exists =
    let p = run f i k in
    let w = went f i k exists in
    let pass = passes f.text p w.instruction w.ranges w.goes in
    let nothing = tests_find_nothing f.text p w.instruction pass.passed in
    let grown = limits_more f.text p w.instruction (run_limits f i k (open_is_there p.mark w.opens)) w.follows
    nothing.overflow in
    subst (λ (r : Run). KeepsLimits (footprint r)) (sym w.is)
    (subst KeepsLimits (touching_twice untouched p.touched (absolute_ranges p.cpu.prefix w.ranges))
    (subst (λ rs. KeepsLimits (touching (footprint p) (absolute_ranges p.cpu.prefix rs))) (sym pass.touches)
    grown))

pub footprint_limits : (f : FlatState) (i : ℕ) (local : Local) → IsFollowed f i local
    → KeepsLimits local.attempt.footprint
footprint_limits f i local is =
    subst KeepsLimits (its_footprint f i local is)
    (run_limits f i local.attempt.count (open_is_there (run f i local.attempt.count).mark is.opens))

-- ---- all operands lie in storage

abbrev low : ℕ → Bool
low a = nat_lt a storage_size

all_up : (n a : ℕ) → a + n ≤ storage_size → list_all low (from_up a n) ≡ true
all_up zero a h = refl
all_up (suc n) a h =
    and_from (low a) (list_all low (from_up (suc a) n)) (lt-ltb a storage_size (omega (arith, h)))
    (all_up n (suc a) (omega (arith, h)))

spans_low : (prefix : Option ℕ) (ss : List Span) → All IsSmall ss
    → list_all (is_inside (accessible_pages prefix)) ss ≡ true
    → list_all low (addresses_in (map range_of ss)) ≡ true
spans_low prefix [] small h = refl
spans_low prefix (s ∷ ss) small h =
    let parts = and_parts (is_inside (accessible_pages prefix) s) (list_all (is_inside (accessible_pages
    prefix))
    ss) h in
    list_all-append low (from_up s.first s.length) (addresses_in (map range_of ss))
    ∙ and_from (list_all low (from_up s.first s.length)) (list_all low (addresses_in (map range_of ss)))
    (all_up s.length s.first (inside_ends prefix s (All-head IsSmall s ss small) parts.0))
    (spans_low prefix ss (All-tail IsSmall s ss small) parts.1)

plain_low : (text : List ℕ) (p : Run) (i : Instr) → begins (entry_at i.op.number) ≡ false
    → operand_refusal text p i ≡ None → list_all low (addresses_in (operands i p.cpu)) ≡ true
unfolding inaccessible_in
plain_low text p i plain none =
    let c = p.cpu in
    let e = entry_at i.op.number in
    let ss = spans i c.general c.condition in
    let reached = accessible (list_all (is_inside (accessible_pages c.prefix)) (tested_spans e.demand ss i
    c.general
    (length p.nest))) addressing _ (not_excepted i _ none) in
    spans_low c.prefix ss (sizes e.operands i c.general c.condition)
    (ap (list_all (is_inside (accessible_pages c.prefix))) (sym (tested_all e.demand ss i c.general (length
    p.nest) plain)) ∙ reached)

operands_low : (text : List ℕ) (p : Run) (i : Instr) (b : Bool) → begins (entry_at i.op.number) ≡ b
    → operand_refusal text p i ≡ None → list_all low (addresses_in (operands i p.cpu)) ≡ true
operands_low text p i true begin none = ap (λ rs. list_all low (addresses_in rs)) (begin_bare i p.cpu
    begin)
operands_low text p i false plain none = plain_low text p i plain none

low_more : (steps : List Step) (s : Step) → list_all low (alike.addresses_of steps) ≡ true
    → list_all low (addresses_in s.ranges) ≡ true
    → list_all low (alike.addresses_of (steps ++ s ∷ [])) ≡ true
low_more steps s old new =
    ap (list_all low) (flat_map-append (λ (x : Step). addresses_in x.ranges) steps (s ∷ []))
    ∙ list_all-append low (alike.addresses_of steps) (addresses_in s.ranges ++ [])
    ∙ and_from (list_all low (alike.addresses_of steps)) (list_all low (addresses_in s.ranges ++ [])) old
    (list_all-append low (addresses_in s.ranges) []
    ∙ and_from (list_all low (addresses_in s.ranges)) true new refl)

run_low : (f : FlatState) (i k : ℕ) → (run f i k).mark ≢ Missing
    → list_all low (alike.addresses_of (run f i k).steps) ≡ true
unfolding run
run_low f i zero exists = refl
run_low f i (suc k) exists =
    let p = run f i k in
    let w = went f i k exists in
    let pass = passes f.text p w.instruction w.ranges w.goes in
    let nothing = tests_find_nothing f.text p w.instruction pass.passed in
    let new = operands_low f.text p w.instruction (begins (entry_at w.instruction.op.number)) refl
    nothing.accessible in
    ap (λ (r : Run). list_all low (alike.addresses_of r.steps)) w.is
    ∙ low_more p.steps (step_of w.instruction w.ranges p.cpu)
    (run_low f i k (open_is_there p.mark w.opens))
    (ap (λ rs. list_all low (addresses_in rs)) pass.touches ∙ new)

-- ---- lines

-- a number that passes both tests
record Both (t s : ℕ → Bool) : Type 0 where
  pub number : ℕ
  pub first : t number ≡ true
  pub second : s number ≡ true

both_by : (t s : ℕ → Bool) (x : ℕ) (b : Bool) → t x ≡ b → (any : Bool) → (b || any) ≡ true → s x ≡ true
    → (any ≡ true → Both t s) → Both t s
both_by t s x true e any h sx more = record { number = x; first = e; second = sx }
both_by t s x false e any h sx more = more h

both : (t s : ℕ → Bool) (xs : List ℕ) → list_any t xs ≡ true → list_all s xs ≡ true → Both t s
both t s [] h all = absurd (true≢false (sym h))
both t s (x ∷ xs) h all =
    let parts = and_parts (s x) (list_all s xs) all in
    both_by t s x (t x) refl (list_any t xs) h parts.0 (λ any. both t s xs any parts.1)

low_line : (prefix : Option ℕ) (line a : ℕ) → is_prefix prefix ≡ true → a < storage_size
    → (absolute_of prefix a / line_size == line) ≡ true → line < storage_lines
low_line prefix line a ok h e =
    let within : absolute_of prefix a < storage_size = absolute_within prefix a ok h in
    let same : absolute_of prefix a / line_size ≡ line = grind (arith, e) in
    omega (arith, within, same)

run_lines : (f : FlatState) (i k line : ℕ) → is_prefix (f.cpus i).prefix ≡ true → (run f i k).mark ≢ Missing
    → ((footprint (run f i k)).fetched line || (footprint (run f i k)).stored line) ≡ true → line < storage_lines
unfolding has_place
run_lines f i k line ok exists h =
    let p = run f i k in
    let prefix = (f.cpus i).prefix in
    let test = λ (b : ℕ). b / line_size == line in
    let touched = run_there test f i k ok exists ∙ either_way (λ r. has_place line_size r line) p.touched ∙ h
    in
    let one = both (seen_test prefix test) low (alike.addresses_of p.steps) touched (run_low f i k exists) in
    low_line prefix line one.number ok (ltb-true one.number storage_size one.second) one.first

pub footprint_lines : (f : FlatState) (i line : ℕ) (local : Local) → IsFollowed f i local
    → is_prefix local.cpu.prefix ≡ true
    → (local.attempt.footprint.fetched line || local.attempt.footprint.stored line) ≡ true → line < storage_lines
footprint_lines f i line local is ok h =
    let n = local.attempt.count in
    run_lines f i n line (ap (λ (c : Cpu). is_prefix c.prefix) is.cpu ∙ ok)
    (open_is_there (run f i n).mark is.opens)
    (ap (λ sets. sets.fetched line || sets.stored line) (its_footprint f i local is) ∙ h)

-- ---- stored bytes

line_inside : (a : ℕ) → a / line_size < storage_lines → a < storage_size
line_inside a h = omega (arith, h)

pub stored_inside : (f : FlatState) (i a byte : ℕ) (local : Local) → IsFollowed f i local
    → is_prefix local.cpu.prefix ≡ true → local.attempt.overlay a ≡ Some byte → a < storage_size
stored_inside f i a byte local is ok h =
    line_inside a (footprint_lines f i (a / line_size) local is ok
    (or_right (local.attempt.footprint.fetched (a / line_size)) (local.attempt.footprint.stored (a /
    line_size))
    (stored_line f i a byte local is ok h)))

pub lasting_inside : (f : FlatState) (i a byte : ℕ) (local : Local) → IsFollowed f i local
    → is_prefix local.cpu.prefix ≡ true → local.attempt.lasting a ≡ Some byte → a < storage_size
lasting_inside f i a byte local is ok h =
    line_inside a (footprint_lines f i (a / line_size) local is ok
    (or_right (local.attempt.footprint.fetched (a / line_size)) (local.attempt.footprint.stored (a /
    line_size))
    (lasting_line f i a byte local is ok h)))

pub breach_none : (i : Instr) (o : Option ℕ) → breach_refusal i o ≡ None → o ≡ None
breach_none i None h = refl
breach_none i (Some n) h = absurd (cc)
