-- The places that a run stores into are those of its stores.
use Rattle.std.proofs.Common.{◌≡◌, ℕ, zero, suc, ◌+◌, ◌-◌, ◌/◌, ◌≤◌, Bool, true, false, List, [], ◌∷◌, ◌++◌}
use Rattle.std.proofs.Common.{Option, Some, None, refl, sym, ap, subst, ◌∙◌, arith, length, take, drop}
use Rattle.std.proofs.Common.{append-nil}
use Rattle.std.proofs.Common.{length-drop}
use Rattle.std.specs.Prelude.{cond, map, nat_le, ◌&&◌, ◌||◌, ◌==◌}
use Rattle.std.specs.List.{list_any, range_with_len, flat_map, All}
use Rattle.std.proofs.lemmas.List.{length-take-le}
use Rattle.std.proofs.lemmas.List.Elements.{All-head, All-tail}
use Rattle.std.proofs.lemmas.List.Folds.{list_any-append}
use Rattle.z_regs.specs.Cpu.{Cpu}
use Rattle.z_regs.specs.Prefix.{absolute_of, is_prefix, area_size}
use Rattle.z_regs.specs.Absolute.{absolute_range, absolute_ranges, addresses_of, part_of, to_edge}
use Rattle.z_regs.specs.declared.ranges.Range.{Range}
use Rattle.z_regs.proofs.MovedBytes.{same_bytes}
use Rattle.z_instr.specs.declared.instr.Instr.{Instr}
use Rattle.z_instr.specs.Operands.{Span, IsSmall, from_up, spans}
use Rattle.z_instr.specs.Table.{entry_at}
use Rattle.z_instr.proofs.SmallOperands.{sizes}
use Rattle.z_touch.specs.Refusals.{range_of}
use Rattle.z_effect.specs.Outcome.{Outcome, Did, Divides, Aborts}
use Rattle.z_effect.specs.Outcome as outcome
use Rattle.store_cache.specs.Overlay.{Store}
use Rattle.tx_footprint.specs.Places.{has_place}
use Rattle.tx_serial.specs.Flat.{FlatState, stores_at, operand_stores}
use Rattle.tx_serial.specs.Attempt.{Run, Mark, Open, Committed, Overflowed, Missing}
use Rattle.tx_serial.specs.Fate.{Fate, Goes, Ends, Stops, fate, operands}
use Rattle.tx_serial.specs.Run.{run, more, more_of, after_fate, after_where, after, may_follow, outcome_of}
use Rattle.tx_serial.specs.Stored.{has_store_in}
use Rattle.tx_serial.proofs.Passing.{passes}
use Rattle.tx_serial.proofs.StoredBytes.{stored_size, Fills, one_fills, length-operand_bytes}
use Rattle.tx_serial.proofs.TextStays.{has_prefix}

-- some store goes to an address that passes a test, and some stored range has one
abbrev pub goes_there : (ℕ → Bool) → List Store → Bool
goes_there test stores = list_any (λ s. test s.address) stores

abbrev pub has_there : (ℕ → Bool) → List Range → Bool
has_there test ranges = list_any (λ r. r.store && list_any test (addresses_of r)) ranges

-- ---- stores of one operand

pub up_is_range : (n a : ℕ) → from_up a n ≡ range_with_len a n
up_is_range zero a = refl
up_is_range (suc n) a =
    ap (λ xs. a ∷ xs) (up_is_range n (suc a) ∙ ap (λ b. range_with_len b n) (let e : suc a ≡ a + 1 = omega
    arith in e))

stores_there : (test : ℕ → Bool) (prefix : Option ℕ) (bytes : List ℕ) (a : ℕ)
    → goes_there test (stores_at prefix a bytes)
    ≡ list_any test (map (absolute_of prefix) (from_up a (length bytes)))
stores_there test prefix [] a = refl
stores_there test prefix (b ∷ bs) a =
    ap (λ t. test (absolute_of prefix a) || t) (stores_there test prefix bs (suc a))

-- ---- one range by absolute addresses

and_once : (a b : Bool) → ((a && b) || false) ≡ (a && (b || false))
and_once true b = refl
and_once false b = refl

and_both : (a b c : Bool) → ((a && b) || ((a && c) || false)) ≡ (a && (b || c))
and_both true true c = refl
and_both true false true = refl
and_both true false false = refl
and_both false b c = refl

one_part : (test : ℕ → Bool) (r : Range)
    → has_there test (r ∷ []) ≡ (r.store && list_any test (flat_map addresses_of (r ∷ [])))
one_part test r =
    and_once r.store (list_any test (addresses_of r))
    ∙ ap (λ t. r.store && t) (sym (list_any-append test (addresses_of r) []))

two_parts : (test : ℕ → Bool) (store : Bool) (q r : Range) → q.store ≡ store → r.store ≡ store
    → has_there test (q ∷ r ∷ []) ≡ (store && list_any test (flat_map addresses_of (q ∷ r ∷ [])))
two_parts test store q r e d =
    ap (λ s. (s && list_any test (addresses_of q)) || ((r.store && list_any test (addresses_of r)) || false))
    e
    ∙ ap (λ s. (store && list_any test (addresses_of q)) || ((s && list_any test (addresses_of r)) || false))
    d
    ∙ and_both store (list_any test (addresses_of q)) (list_any test (addresses_of r))
    ∙ ap (λ t. store && t) (ap (λ t. list_any test (addresses_of q) || t)
    (ap (list_any test) (sym (append-nil (addresses_of r))))
    ∙ sym (list_any-append test (addresses_of q) (addresses_of r ++ [])))

parts_there : (test : ℕ → Bool) (p : ℕ) (r : Range) (b : Bool)
    → has_there test (cond b
    (part_of r (absolute_of (Some p) r.first) r.length ∷ [])
    (part_of r (absolute_of (Some p) r.first) (to_edge r.first) ∷
    part_of r (absolute_of (Some p) (r.first + to_edge r.first)) (r.length - to_edge r.first) ∷ []))
    ≡ (r.store && list_any test (flat_map addresses_of (cond b
    (part_of r (absolute_of (Some p) r.first) r.length ∷ [])
    (part_of r (absolute_of (Some p) r.first) (to_edge r.first) ∷
    part_of r (absolute_of (Some p) (r.first + to_edge r.first)) (r.length - to_edge r.first) ∷ []))))
parts_there test p r true = one_part test (part_of r (absolute_of (Some p) r.first) r.length)
parts_there test p r false =
    two_parts test r.store (part_of r (absolute_of (Some p) r.first) (to_edge r.first))
    (part_of r (absolute_of (Some p) (r.first + to_edge r.first)) (r.length - to_edge r.first)) refl refl

range_there : (test : ℕ → Bool) (prefix : Option ℕ) (r : Range)
    → has_there test (absolute_range prefix r)
    ≡ (r.store && list_any test (flat_map addresses_of (absolute_range prefix r)))
unfolding absolute_range
range_there test None r = one_part test r
range_there test (Some p) r = parts_there test p r (nat_le r.length (to_edge r.first))

-- ---- all operands of an instruction

abbrev pub AreSmall : List Range → Type 0
AreSmall [] = Unit {0}
AreSmall (r ∷ rs) = (r.length ≤ area_size) × AreSmall rs

first_there : (test : ℕ → Bool) (prefix : Option ℕ) (r : Range) (bytes : List ℕ) → is_prefix prefix ≡ true
    → r.length ≤ area_size → r.length ≤ length bytes
    → goes_there test (stores_at prefix r.first (take r.length bytes))
    ≡ list_any test (flat_map addresses_of (absolute_range prefix r))
first_there test prefix r bytes ok small enough =
    stores_there test prefix (take r.length bytes) r.first
    ∙ ap (λ n. list_any test (map (absolute_of prefix) (from_up r.first n))) (length-take-le r.length bytes
    enough)
    ∙ ap (λ xs. list_any test (map (absolute_of prefix) xs)) (up_is_range r.length r.first)
    ∙ ap (list_any test) (sym (same_bytes prefix r ok small))

either_there : (test : ℕ → Bool) (prefix : Option ℕ) (r : Range) (rs : List Range) (bytes : List ℕ) (t : Bool)
    → is_prefix prefix ≡ true → r.length ≤ area_size
    → cond t r.length 0 + stored_size rs ≤ length bytes
    → ((others : List ℕ) → stored_size rs ≤ length others
    → goes_there test (operand_stores prefix rs others) ≡ has_there test (absolute_ranges prefix rs))
    → goes_there test (cond t
    (stores_at prefix r.first (take r.length bytes) ++ operand_stores prefix rs (drop r.length bytes))
    (operand_stores prefix rs bytes))
    ≡ ((t && list_any test (flat_map addresses_of (absolute_range prefix r)))
    || has_there test (absolute_ranges prefix rs))
either_there test prefix r rs bytes true ok small enough rest =
    let left = length-drop r.length bytes in
    let first : r.length ≤ length bytes = omega arith in
    let others : stored_size rs ≤ length (drop r.length bytes) = omega arith in
    list_any-append (λ s. test s.address) (stores_at prefix r.first (take r.length bytes))
    (operand_stores prefix rs (drop r.length bytes))
    ∙ ap (λ t. t || goes_there test (operand_stores prefix rs (drop r.length bytes)))
    (first_there test prefix r bytes ok small first)
    ∙ ap (λ t. list_any test (flat_map addresses_of (absolute_range prefix r)) || t)
    (rest (drop r.length bytes) others)
either_there test prefix r rs bytes false ok small enough rest = rest bytes (omega (arith, enough))

pub operands_there : (test : ℕ → Bool) (prefix : Option ℕ) (ranges : List Range) → is_prefix prefix ≡ true
    → AreSmall ranges → (bytes : List ℕ) → stored_size ranges ≤ length bytes
    → goes_there test (operand_stores prefix ranges bytes) ≡ has_there test (absolute_ranges prefix ranges)
operands_there test prefix [] ok small bytes enough = refl
operands_there test prefix (r ∷ rs) ok small bytes enough =
    either_there test prefix r rs bytes r.store ok small.0 enough (operands_there test prefix rs ok small.1)
    ∙ ap (λ t. t || has_there test (absolute_ranges prefix rs)) (sym (range_there test prefix r))
    ∙ sym (list_any-append (λ q. q.store && list_any test (addresses_of q)) (absolute_range prefix r)
    (absolute_ranges prefix rs))

all_small : (ss : List Span) → All IsSmall ss → AreSmall (map range_of ss)
all_small [] h = tt
all_small (s ∷ ss) h =
    let first = All-head IsSmall s ss h in
    let most = first.most in
    let small : s.length ≤ area_size = omega (arith, most) in
    (small, all_small ss (All-tail IsSmall s ss h))

-- ---- along a run

abbrev AreSame : (ℕ → Bool) → Run → Type 0
AreSame test p = goes_there test p.stores ≡ has_there test p.touched

more_of_both : (test : ℕ → Bool) (p : Run) (stores : List Store) (ranges : List Range) → AreSame test p
    → goes_there test stores ≡ has_there test ranges
    → goes_there test (p.stores ++ stores) ≡ has_there test (p.touched ++ ranges)
more_of_both test p stores ranges old new =
    list_any-append (λ s. test s.address) p.stores stores
    ∙ (λ k. old k || new k)
    ∙ sym (list_any-append (λ r. r.store && list_any test (addresses_of r)) p.touched ranges)

same_after : (test : ℕ → Bool) (p : Run) (i : Instr) (ranges : List Range) (o : Outcome)
    → is_prefix p.cpu.prefix ≡ true → AreSmall ranges → Fills (stored_size ranges) o → AreSame test p
    → AreSame test (after i ranges p o)
same_after test p i ranges (Did c bytes) ok small enough old =
    more_of_both test p (operand_stores p.cpu.prefix ranges bytes) (absolute_ranges p.cpu.prefix ranges) old
    (operands_there test p.cpu.prefix ranges ok small bytes enough)
same_after test p i ranges (outcome.Overflowed c bytes) ok small enough old =
    more_of_both test p (operand_stores p.cpu.prefix ranges bytes) (absolute_ranges p.cpu.prefix ranges) old
    (operands_there test p.cpu.prefix ranges ok small bytes enough)
same_after test p i ranges Divides ok small enough old = old
same_after test p i ranges (Aborts code) ok small enough old = old

-- an instruction that goes has small operands, and a byte for each place of the stored ones
pub small_operands : (i : Instr) (c : Cpu) → AreSmall (operands i c)
small_operands i c =
    all_small (spans i c.general c.condition) (sizes (entry_at i.op.number).operands i c.general c.condition)

pub filled : (i : Instr) (p : Run) → Fills (stored_size (operands i p.cpu)) (outcome_of i (operands i p.cpu)
    p)
filled i p = one_fills i p.cpu _ _ (length-operand_bytes p.cpu.prefix p.copy (operands i p.cpu))

same_where : (test : ℕ → Bool) (p : Run) (b : Bool) (i : Instr) → is_prefix p.cpu.prefix ≡ true
    → AreSame test p
    → AreSame test (after_where b i (operands i p.cpu) p)
same_where test p true i ok old =
    same_after test p i (operands i p.cpu) (outcome_of i (operands i p.cpu) p) ok (small_operands i p.cpu)
    (filled i p) old
same_where test p false i ok old = old

same_fate : (test : ℕ → Bool) (text : List ℕ) (p : Run) (o : Fate) → fate text p ≡ o
    → is_prefix p.cpu.prefix ≡ true → AreSame test p → AreSame test (after_fate o p)
same_fate test text p (Goes i ranges) e ok old =
    let pass = passes text p i ranges e in
    subst (λ rs. AreSame test (after_where (may_follow p.nest i) i rs p)) (sym pass.touches)
    (same_where test p (may_follow p.nest i) i ok old)
same_fate test text p (Ends why) e ok old = old
same_fate test text p (Stops x) e ok old = old

same_more : (test : ℕ → Bool) (text : List ℕ) (p : Run) (m : Mark) → is_prefix p.cpu.prefix ≡ true
    → AreSame test p → AreSame test (more_of m text p)
same_more test text p Open ok old = same_fate test text p (fate text p) refl ok old
same_more test text p Committed ok old = old
same_more test text p Overflowed ok old = old
same_more test text p Missing ok old = old

pub run_stores_there : (test : ℕ → Bool) (f : FlatState) (i k : ℕ) → is_prefix (f.cpus i).prefix ≡ true
    → list_any (λ s. test s.address) (run f i k).stores
    ≡ list_any (λ r. r.store && list_any test (addresses_of r)) (run f i k).touched
unfolding run more
run_stores_there test f i zero ok = refl
run_stores_there test f i (suc k) ok =
    same_more test f.text (run f i k) (run f i k).mark (has_prefix f i k ok) (run_stores_there test f i k ok)

-- ---- places

pub stored_places : (size : ℕ) (f : FlatState) (i k place : ℕ) → is_prefix (f.cpus i).prefix ≡ true
    → list_any (λ r. r.store && has_place size r place) (run f i k).touched
    ≡ has_store_in size (run f i k).stores place
unfolding has_place
stored_places size f i k place ok = sym (run_stores_there (λ a. a / size == place) f i k ok)
