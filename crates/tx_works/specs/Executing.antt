-- What a CPU needs to execute an instruction whose lines are there.
use Rattle.std.specs.Prelude.{◌≡◌, ℕ, ◌<◌, Bool, List, false}
use Rattle.z_regs.specs.declared.ranges.Range.{Range}
use Rattle.z_instr.specs.declared.instr.Instr.{Instr}
use Rattle.tx_program.specs.declared.ready.Shape.{Shape}
use Rattle.tx_program.specs.Shapes.{touched_by}
use Rattle.tx_lines.specs.Plans.{IsPrepared}
use Rattle.tx_progress.specs.Progress.{resting}
use Rattle.tx_progress.specs.Doing.{executed}
use Rattle.tx_progress.specs.declared.done.Done.{Done}
use Rattle.tx_meaning.specs.State.{is_live}
use Rattle.tx_keeping.specs.Kept.{Kept, beside}
use Rattle.tx_works.specs.Steps.{k_left}

-- the operand of a plain instruction, which begins at an address
abbrev pub operand_by : Shape → ℕ → List Range
operand_by shape first = touched_by shape.touch first shape.size

-- the instruction is prepared; what is completed and what has begun can be counted; and outside transactions nothing is
-- left of an attempt
pub record MayExecute (i : ℕ) (instr : Instr) (need : List Range) (k : Kept) : Type 0 where
  pub prepared : IsPrepared (k.locals i).attempt instr need
  pub counts : (k.state.numbers i).completed < (k.state.numbers i).turns
  pub begins : (k.state.numbers i).attempts < (k.state.numbers i).turns
  pub rested : is_live k.state i ≡ false → (k.locals i).attempt ≡ resting (k.locals i).cpu

-- The CPU has executed an instruction, inside a transaction or outside, that tells this: what was kept before, and what is now.
pub record LeftBy (i : ℕ) (live : Bool) (told : Done) (instr : Instr) (need : List Range) (before k : Kept) : Type 0 where
  pub may : MayExecute i instr need before
  pub counted : (before.state.numbers i).completed ≡ (before.locals i).attempt.count
  pub live_is : is_live before.state i ≡ live
  pub told_is : told ≡ (executed instr need (beside before i)).told
  pub left : k ≡ k_left i (executed instr need (beside before i)).after before

-- it has executed some instruction so
pub record IsLeft (i : ℕ) (live : Bool) (told : Done) (k : Kept) : Type 0 where
  pub instr : Instr
  pub need : List Range
  pub before : Kept
  pub by : LeftBy i live told instr need before k
