-- What lasts of a CPU along a run.
use Rattle.std.proofs.Common.{◌≡◌, ℕ, zero, suc, Bool, true, false, List, refl, Option}
use Rattle.z_regs.specs.declared.image.RunState.{RunState}
use Rattle.z_regs.specs.declared.ranges.Range.{Range}
use Rattle.z_instr.specs.declared.instr.Instr.{Instr}
use Rattle.z_effect.specs.Outcome.{Outcome, Did, Divides, Aborts}
use Rattle.z_effect.specs.Outcome as outcome
use Rattle.z_effect.proofs.Lasting.{Lasts, Keeps}
use Rattle.tx_serial.specs.Attempt.{Run, Mark, Open, Committed, Overflowed, Missing}
use Rattle.tx_serial.specs.Fate.{Fate, Goes, Ends, Stops, fate}
use Rattle.tx_serial.specs.Flat.{FlatState}
use Rattle.tx_serial.specs.Run.{run, more, more_of, after_fate, after_where, after, may_follow, outcome_of}

-- what is said of the state and of the prefix of a CPU, and that each instruction of a run keeps it
module _ (P : RunState → Option ℕ → Type 0)
    (keeps : (text : List ℕ) (p : Run) (i : Instr) (ranges : List Range) → may_follow p.nest i ≡ true
    → fate text p ≡ Goes i ranges → Keeps P (outcome_of i ranges p) p.cpu) where
  -- an instruction leaves the run with its CPU, or with the CPU as it was
  lasts_after : (i : Instr) (ranges : List Range) (p : Run) (o : Outcome) → Keeps P o p.cpu
      → Lasts P p.cpu (after i ranges p o).cpu
  lasts_after i ranges p (Did c bytes) kept = kept
  lasts_after i ranges p (outcome.Overflowed c bytes) kept = kept
  lasts_after i ranges p Divides kept = kept
  lasts_after i ranges p (Aborts code) kept = kept

  -- whether or not it may be the next one
  lasts_where : (text : List ℕ) (b : Bool) (i : Instr) (ranges : List Range) (p : Run) → may_follow p.nest i ≡ b
      → fate text p ≡ Goes i ranges → Lasts P p.cpu (after_where b i ranges p).cpu
  lasts_where text true i ranges p follows goes =
      lasts_after i ranges p (outcome_of i ranges p) (keeps text p i ranges follows goes)
  lasts_where text false i ranges p follows goes = λ h. h

  -- whatever becomes of the next instruction
  lasts_fate : (text : List ℕ) (o : Fate) (p : Run) → fate text p ≡ o → Lasts P p.cpu (after_fate o p).cpu
  lasts_fate text (Goes i ranges) p h = lasts_where text (may_follow p.nest i) i ranges p refl h
  lasts_fate text (Ends why) p h = λ h. h
  lasts_fate text (Stops x) p h = λ h. h

  -- one instruction more, where the run is open
  lasts_more : (m : Mark) (text : List ℕ) (p : Run) → Lasts P p.cpu (more_of m text p).cpu
  lasts_more Open text p = lasts_fate text (fate text p) p refl
  lasts_more Committed text p = λ h. h
  lasts_more Overflowed text p = λ h. h
  lasts_more Missing text p = λ h. h

  -- what is true of the CPU is true of it behind any number of instructions
  pub run_lasts : (f : FlatState) (i k : ℕ) → Lasts P (f.cpus i) (run f i k).cpu
  unfolding run more
  run_lasts f i zero h = h
  run_lasts f i (suc k) h = lasts_more (run f i k).mark f.text (run f i k) (run_lasts f i k h)
