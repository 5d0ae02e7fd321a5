-- An attempt touches lines of storage alone.
use Rattle.std.proofs.Common.{◌≡◌, ℕ, zero, suc, ◌<◌, Bool, true, false, List, [], ◌∷◌, refl, sym, subst}
use Rattle.std.proofs.Common.{arith}
use Rattle.std.specs.Prelude.{◌&&◌, not, All}
use Rattle.std.specs.List.{list_any}
use Rattle.std.proofs.lemmas.Bool.{and_parts, or_cases}
use Rattle.std.proofs.lemmas.List.Elements.{All-nil, All-append, All-head, All-tail}
use borrow.Enum.Arm.{by_way}
use Rattle.z_regs.specs.Absolute.{absolute_ranges}
use Rattle.z_regs.specs.Prefix.{is_prefix}
use Rattle.z_regs.specs.declared.ranges.Range.{Range}
use Rattle.z_instr.specs.declared.instr.Instr.{Instr}
use Rattle.z_effect.specs.Outcome.{Outcome, Did, Divides, Aborts}
use Rattle.z_effect.specs.Outcome as outcome
use Rattle.tx_footprint.specs.Places.{IsInStorage, has_place}
use Rattle.tx_footprint.specs.Sizes.{line_size}
use Rattle.tx_footprint.proofs.Spans.{address_of}
use Rattle.tx_serial.specs.Attempt.{Run, Mark, Open, Committed, Overflowed, Missing, footprint}
use Rattle.tx_serial.specs.Fate.{Fate, Goes, Ends, Stops, fate}
use Rattle.tx_serial.specs.Flat.{FlatState}
use Rattle.tx_serial.specs.Run.{run, more, more_of, after_fate, after_where, after, may_follow, outcome_of}
use Rattle.tx_serial.proofs.FreeOperands.{no_operand_refusal}
use Rattle.tx_serial.proofs.Passing.{passes}
use Rattle.tx_serial.proofs.TextStays.{has_prefix}
use Rattle.tx_private.proofs.Inside.{in_storage}

-- ---- what a run has touched

-- the operands of all instructions lie in storage
abbrev IsInside : Run → Type 0
IsInside p = All IsInStorage p.touched

-- an instruction adds its operands, or nothing
inside_after : (p : Run) (i : Instr) (ranges : List Range) (o : Outcome)
    → All IsInStorage (absolute_ranges p.cpu.prefix ranges) → IsInside p → IsInside (after i ranges p o)
inside_after p i ranges (Did c bytes) new old =
    All-append IsInStorage p.touched (absolute_ranges p.cpu.prefix ranges) old new
inside_after p i ranges (outcome.Overflowed c bytes) new old =
    All-append IsInStorage p.touched (absolute_ranges p.cpu.prefix ranges) old new
inside_after p i ranges Divides new old = old
inside_after p i ranges (Aborts code) new old = old

-- where it may follow
inside_where : (p : Run) (b : Bool) (i : Instr) (ranges : List Range)
    → All IsInStorage (absolute_ranges p.cpu.prefix ranges) → IsInside p → IsInside (after_where b i ranges p)
inside_where p true i ranges new old = inside_after p i ranges (outcome_of i ranges p) new old
inside_where p false i ranges new old = old

-- an instruction that goes touches storage alone
goes_inside : (text : List ℕ) (p : Run) (i : Instr) (ranges : List Range) → is_prefix p.cpu.prefix ≡ true
    → fate text p ≡ Goes i ranges → All IsInStorage (absolute_ranges p.cpu.prefix ranges)
goes_inside text p i ranges ok goes =
    let pass = passes text p i ranges goes in
    subst (λ rs. All IsInStorage (absolute_ranges p.cpu.prefix rs)) (sym pass.touches)
    (in_storage text p i ok (no_operand_refusal text p i pass.passed))

-- by the fate of the next instruction
inside_fate : (text : List ℕ) (p : Run) (o : Fate) → fate text p ≡ o → is_prefix p.cpu.prefix ≡ true
    → IsInside p → IsInside (after_fate o p)
inside_fate text p (Goes i ranges) e ok old =
    inside_where p (may_follow p.nest i) i ranges (goes_inside text p i ranges ok e) old
inside_fate text p (Ends why) e ok old = old
inside_fate text p (Stops x) e ok old = old

-- one instruction more
inside_more : (text : List ℕ) (p : Run) (m : Mark) → is_prefix p.cpu.prefix ≡ true → IsInside p
    → IsInside (more_of m text p)
inside_more text p Open ok old = inside_fate text p (fate text p) refl ok old
inside_more text p Committed ok old = old
inside_more text p Overflowed ok old = old
inside_more text p Missing ok old = old

-- any number of instructions
run_inside : (f : FlatState) (i k : ℕ) → is_prefix (f.cpus i).prefix ≡ true → IsInside (run f i k)
unfolding run more
run_inside f i zero ok = All-nil IsInStorage
run_inside f i (suc k) ok =
    inside_more f.text (run f i k) (run f i k).mark (has_prefix f i k ok) (run_inside f i k ok)

-- ---- lines

-- a line with a byte of a range in storage is one of storage
line_in : (r : Range) (line : ℕ) → IsInStorage r → has_place line_size r line ≡ true → line < 4096
line_in r line inside has =
    let spot = address_of line_size r line has in
    let low = inside spot.0 spot.1 spot.2 in
    let there = spot.3 in
    omega (arith, low, there)

-- of a list of ranges, those that count
any_line : (counts : Range → Bool) (ranges : List Range) (line : ℕ) → All IsInStorage ranges
    → list_any (λ r. counts r && has_place line_size r line) ranges ≡ true → line < 4096
any_line counts [] line inside h = absurd cc
any_line counts (r ∷ rs) line inside h =
    by_way (or_cases (counts r && has_place line_size r line)
    (list_any (λ r. counts r && has_place line_size r line) rs) h)
    (λ here. line_in r line (All-head IsInStorage r rs inside)
    (and_parts (counts r) (has_place line_size r line) here).1)
    (λ later. any_line counts rs line (All-tail IsInStorage r rs inside) later)

-- the lines that a run has stored into
pub stored_below : (f : FlatState) (i k line : ℕ) → is_prefix (f.cpus i).prefix ≡ true
    → (footprint (run f i k)).stored line ≡ true → line < 4096
stored_below f i k line ok h = any_line (λ r. r.store) (run f i k).touched line (run_inside f i k ok) h

-- and those that it has fetched from
pub fetched_below : (f : FlatState) (i k line : ℕ) → is_prefix (f.cpus i).prefix ≡ true
    → (footprint (run f i k)).fetched line ≡ true → line < 4096
fetched_below f i k line ok h = any_line (λ r. not r.store) (run f i k).touched line (run_inside f i k ok) h
