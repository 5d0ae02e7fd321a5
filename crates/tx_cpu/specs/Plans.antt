-- Plans as fates, what a plan that goes promises, and what holds of a cause by which an attempt is aborted.
use Rattle.std.specs.Prelude.{◌≡◌, ℕ, if◌then◌else◌, length, List, Option, Some, None}
use Rattle.z_regs.specs.declared.ranges.Range.{Range}
use Rattle.z_instr.specs.declared.instr.Instr.{Instr}
use Rattle.tx_serial.specs.Fate.{Fate, Goes, Ends, Stops}
use Rattle.tx_serial.specs.Flat.{Storage}
pub use Rattle.tx_serial.specs.Room.{HasRoom}
use Rattle.tx_progress.specs.Progress.{Progress, is_live}
use Rattle.tx_progress.specs.Trial.{fate_by_progress}
use Rattle.tx_progress.specs.declared.done.Done.{Done}
use Rattle.tx_progress.specs.declared.done.Done.TheVariants as done
use Rattle.tx_cpu.specs.declared.plan.Plan.{Plan}
use Rattle.tx_cpu.specs.declared.plan.Plan.TheVariants as plan

abbrev pub fate_of : Plan → Fate
fate_of (plan.Go instr need) = Goes instr need
fate_of (plan.Ends why) = Ends why
fate_of (plan.Stops e) = Stops e

-- how many begins are open, and how many instructions are completed, of an attempt that is live
abbrev pub levels_of : Progress → Option (ℕ × ℕ)
levels_of q = if is_live q then Some (length q.nest, q.count) else None

-- the same of a plan that ends the transaction
abbrev pub HasPlanRoom : Plan → Type 0
HasPlanRoom (plan.Go instr need) = Unit {0}
HasPlanRoom (plan.Ends why) = HasRoom why
HasPlanRoom (plan.Stops e) = Unit {0}

-- the same of an instruction that has ended the transaction
abbrev pub HasDoneRoom : Done → Type 0
HasDoneRoom done.Stepped = Unit {0}
HasDoneRoom (done.Paused turns) = Unit {0}
HasDoneRoom done.Began = Unit {0}
HasDoneRoom (done.Committed count) = Unit {0}
HasDoneRoom (done.Interrupted code) = Unit {0}
HasDoneRoom (done.Ended why) = HasRoom why

-- by some text the instruction goes, with these operands
pub record IsPrepared (q : Progress) (i : Instr) (need : List Range) : Type 0 where
  pub text : List ℕ
  pub storage : Storage
  pub goes : fate_by_progress text storage q ≡ Goes i need

-- so it is of a plan that goes
abbrev pub IsPlanPrepared : Progress → Plan → Type 0
IsPlanPrepared q (plan.Go instr need) = IsPrepared q instr need
IsPlanPrepared q (plan.Ends why) = Unit {0}
IsPlanPrepared q (plan.Stops e) = Unit {0}
