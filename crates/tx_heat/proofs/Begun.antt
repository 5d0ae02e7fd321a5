-- The first instruction of a private run is a begin, and touches nothing.
use Rattle.std.proofs.Common.{◌≡◌, ℕ, Bool, true, false, List, [], refl, ap, ◌∙◌}
use Rattle.std.specs.Prelude.{not}
use Rattle.z_regs.specs.Absolute.{absolute_ranges}
use Rattle.z_regs.specs.Cpu.{Cpu}
use Rattle.z_regs.specs.declared.ranges.Range.{Range}
use Rattle.z_instr.specs.declared.instr.Instr.{Instr}
use Rattle.z_instr.specs.Roles.{begins}
use Rattle.z_instr.specs.Table.{entry_at}
use Rattle.z_effect.specs.Outcome.{Outcome, Did, Divides, Aborts}
use Rattle.z_effect.specs.Outcome as outcome
use Rattle.tx_serial.specs.Attempt.{Run, at_rest}
use Rattle.tx_serial.specs.Fate.{Fate, Goes, Ends, Stops, fate, operands}
use Rattle.tx_serial.specs.Flat.{FlatState, Storage}
use Rattle.tx_serial.specs.Run.{run, more, after, after_fate, after_where, outcome_of}
use Rattle.tx_serial.proofs.Passing.{passes}
use Rattle.tx_serial.proofs.FreeOperands.{begin_bare}
use Rattle.z_instr.proofs.PlainImmediates.{implied}

-- ---- by the table of instructions

-- ---- one instruction from rest

module _ (text : List ℕ) (storage : Storage) (c : Cpu) where
  abbrev p : Run
  p = at_rest storage c

  -- what it has touched are its operands
  by_outcome : (i : Instr) (ranges : List Range) (o : Outcome) → ranges ≡ [] → (after i ranges p o).touched ≡ []
  by_outcome i ranges (Did cpu bytes) none = ap (absolute_ranges c.prefix) none
  by_outcome i ranges (outcome.Overflowed cpu bytes) none = ap (absolute_ranges c.prefix) none
  by_outcome i ranges Divides none = refl
  by_outcome i ranges (Aborts code) none = refl

  -- only a begin may be the first
  by_begin : (b : Bool) (i : Instr) (ranges : List Range) → (b ≡ true → ranges ≡ [])
      → (after_where b i ranges p).touched ≡ []
  by_begin true i ranges none = by_outcome i ranges (outcome_of i ranges p) (none refl)
  by_begin false i ranges none = refl

  -- one that does not go touches nothing
  by_fate : (f : Fate) → fate text p ≡ f → (after_fate f p).touched ≡ []
  by_fate (Goes i ranges) is =
      by_begin (begins (entry_at i.op.number)) i ranges
      (λ begin. (passes text p i ranges is).touches ∙ begin_bare i c begin)
  by_fate (Ends why) is = refl
  by_fate (Stops e) is = refl

  -- implied nothing is touched
  first_adds : (more text p).touched ≡ []
  unfolding more
  first_adds = by_fate (fate text p) refl

-- a run of one instruction has touched nothing
pub first_touches_nothing : (f : FlatState) (i : ℕ) → (run f i 1).touched ≡ []
unfolding run
first_touches_nothing f i = first_adds f.text f.storage (f.cpus i)
