-- What an aborted attempt leaves.
use Rattle.std.specs.Prelude.{ℕ, ◌+◌, Bool, if◌then◌else◌, List, [], ◌∷◌, Option, Some, None}
use Rattle.z_regs.specs.Cpu.{Cpu}
use Rattle.z_regs.specs.declared.waiting.Waiting.{Waiting}
use Rattle.z_effect.specs.One.{length_of}
use Rattle.z_effect.specs.Interrupted.{with_interruption}
use Rattle.tx_control.specs.Nesting.{outermost_mask, outermost_block, is_constrained}
use Rattle.tx_control.specs.declared.causes.Why.{Why}
use Rattle.tx_control.specs.declared.causes.Why.TheVariants.{Program}
use Rattle.tx_abort.specs.Causes.{cause_of}
use Rattle.tx_abort.specs.Block.{block}
use Rattle.tx_abort.specs.Registers.{with_restored}
use Rattle.tx_constraint.specs.Constraints.{Step}
use Rattle.tx_serial.specs.Flat.{FlatState, Pending, at_put, laid_over}
use Rattle.tx_serial.specs.Attempt.{Run, Mark, Open, Committed, Overflowed, Missing, last_step}

-- ---- the diagnostic block

-- the address of the instruction that is told of: the next one, which has not completed, or the last one
-- where it ended in an overflow
abbrev pub address_in : Mark → Option Step → ℕ → ℕ
address_in Overflowed (Some s) next = s.at
address_in Overflowed None next = next
address_in Open s next = next
address_in Committed s next = next
address_in Missing s next = next

abbrev pub block_after : Run → Why → List ℕ
block_after p why = block why p.nest p.cpu.general (address_in p.mark (last_step p.steps) p.cpu.address)

-- it becomes pending where the outermost begin names one
abbrev pub pending_after : Option ℕ → List ℕ → Option Pending
pending_after None bytes = None
pending_after (Some address) bytes = Some record { address = address; bytes = bytes }

-- ---- the interruption

-- the bit that tells of an aborted transaction
abbrev pub aborted_bit : ℕ
aborted_bit = 0x0200

-- on a CPU with a prefix it waits to be taken
abbrev pub waiting_with : Option ℕ → ℕ → Option (List ℕ) → Option Waiting
waiting_with None length bytes = None
waiting_with (Some prefix) length bytes = Some record { length = length; block = bytes }

abbrev pub waiting_after : Option ℕ → List ℕ → Why → Option Waiting
waiting_after prefix bytes (Program e) = waiting_with prefix e.length (Some bytes)
waiting_after prefix bytes _ = None

abbrev pub interrupted_after : Why → Cpu → Cpu
interrupted_after (Program e) c = with_interruption (e.code + aborted_bit) c
interrupted_after _ c = c

-- ---- the CPU

-- where the program goes on: behind TBEGIN, or at TBEGINC again
abbrev pub resumed_at : Bool → List Step → ℕ
resumed_at constrained [] = 0
resumed_at constrained (begin ∷ steps) =
    if constrained then begin.at else begin.at + length_of begin.instruction

-- the pairs that the outermost begin saves have their old values again
abbrev pub cpu_after_abort : Cpu → Run → Why → Cpu
cpu_after_abort saved p why =
    let c = with_restored saved.general (outermost_mask p.nest) p.cpu in
    interrupted_after why (record c {
      address = resumed_at (is_constrained p.nest) p.steps;
      condition = (cause_of why).condition;
    })

-- ---- all of it

-- only the stores of NTSTG are left of those that the attempt has made
unfoldable pub remains : FlatState → ℕ → Run → Why → FlatState
remains f i p why = record f {
  storage = laid_over f.storage p.lasting;
  cpus = at_put f.cpus i (cpu_after_abort (f.cpus i) p why);
  pending = at_put f.pending i (pending_after (outermost_block p.nest) (block_after p why));
  waiting = at_put f.waiting i (waiting_after p.cpu.prefix (block_after p why) why);
}
