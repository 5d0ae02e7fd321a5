-- What an aborted attempt leaves of its CPU, by what is kept of the run.
use Rattle.std.specs.Prelude.{ℕ, ◌+◌, if◌then◌else◌, List, Option}
use Rattle.z_regs.specs.Cpu.{Cpu, cpu_of}
use Rattle.z_regs.specs.declared.waiting.Waiting.{Waiting}
use Rattle.tx_control.specs.Nesting.{outermost_mask, outermost_block, is_constrained}
use Rattle.tx_control.specs.declared.causes.Why.{Why}
use Rattle.tx_abort.specs.Causes.{cause_of}
use Rattle.tx_abort.specs.Block.{block}
use Rattle.tx_abort.specs.Registers.{with_restored}
use Rattle.tx_serial.specs.Flat.{Pending}
use Rattle.tx_serial.specs.Remains.{interrupted_after, pending_after, waiting_after}
use Rattle.tx_private.specs.declared.attempt.Attempt.{Attempt}
use Rattle.tx_private.specs.declared.attempt.Mark.{Mark}
use Rattle.tx_private.specs.declared.attempt.Mark.TheVariants.{Open, Committed, Overflowed, Missing}

-- the address that the block tells: of the last instruction where that overflowed, else of the next one
abbrev pub told_in : Mark → ℕ → ℕ → ℕ
told_in Open last next = next
told_in Committed last next = next
told_in Overflowed last next = last
told_in Missing last next = next

abbrev pub told_by : Attempt → ℕ
told_by a = told_in a.mark a.last.at a.image.address

-- where the program goes on: behind TBEGIN, or at TBEGINC again
abbrev pub resumed_by : Attempt → ℕ
resumed_by a = if is_constrained a.nest then a.begin.at else a.begin.at + a.begin.length

abbrev pub block_by : Attempt → Why → List ℕ
block_by a why = block why a.nest a.image.general (told_by a)

-- the CPU, by what it was before the attempt
abbrev pub cpu_left : Attempt → Cpu → Why → Cpu
cpu_left a saved why =
    interrupted_after why (record (with_restored saved.general (outermost_mask a.nest) (cpu_of a.image)) {
      address = resumed_by a;
      condition = (cause_of why).condition;
    })

abbrev pub pending_left : Attempt → Why → Option Pending
pending_left a why = pending_after (outermost_block a.nest) (block_by a why)

abbrev pub waiting_left : Attempt → Why → Option Waiting
waiting_left a why = waiting_after a.image.prefix (block_by a why) why
