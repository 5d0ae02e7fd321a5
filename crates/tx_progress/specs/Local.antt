-- What is kept of one CPU: as the history leaves it, and its attempt.
use Rattle.std.specs.Prelude.{ℕ, List, Option, Some, None}
use Rattle.z_regs.specs.Cpu.{Cpu}
use Rattle.z_regs.specs.declared.waiting.Waiting.{Waiting}
use Rattle.tx_control.specs.Nesting.{outermost_mask, outermost_block}
use Rattle.tx_control.specs.declared.causes.Why.{Why}
use Rattle.tx_abort.specs.Causes.{cause_of}
use Rattle.tx_abort.specs.Block.{block}
use Rattle.tx_abort.specs.Registers.{with_restored}
use Rattle.tx_serial.specs.Flat.{Storage, FlatState, Pending, with_bytes_at}
use Rattle.tx_serial.specs.Remains.{interrupted_after, pending_after, waiting_after}
use Rattle.tx_serial.specs.Apply.{with_stored_interruption, with_new_psw}
use Rattle.tx_progress.specs.Progress.{Progress, resting, seen_through}

-- The CPU as the history leaves it, in which nothing of a live attempt is; its attempt; the block that is
-- pending for it; and the interruption that it has still to take.
pub record Local : Type 0 where
  pub cpu : Cpu
  pub attempt : Progress
  pub pending : Option Pending
  pub waiting : Option Waiting

-- one CPU, and storage
pub record Beside : Type 0 where
  pub local : Local
  pub storage : Storage

-- a CPU that has no attempt, and for which nothing is left to do
abbrev pub settled : Cpu → Local
settled c = record { cpu = c; attempt = resting c; pending = None; waiting = None }

-- ---- a flat state of such parts

abbrev pub flat_from : List ℕ → Storage → (ℕ → Local) → FlatState
flat_from text storage locals = record {
  storage = storage;
  text = text;
  cpus = λ i. (locals i).cpu;
  pending = λ i. (locals i).pending;
  waiting = λ i. (locals i).waiting;
}

-- ---- an abort

-- the CPU has the saved values of the pairs that the outermost begin saves, and goes on where that says
abbrev pub cpu_left : Cpu → Progress → Why → Cpu
cpu_left saved q why =
    let c = with_restored saved.general (outermost_mask q.nest) q.cpu in
    interrupted_after why (record c { address = q.resumes_at; condition = (cause_of why).condition })

-- the diagnostic block, which tells of the instruction at this address
abbrev pub block_at : Progress → Why → ℕ → List ℕ
block_at q why at = block why q.nest q.cpu.general at

abbrev pub left_behind : Cpu → Progress → Why → ℕ → Local
left_behind saved q why at =
    let c = cpu_left saved q why in
    record {
      cpu = c;
      attempt = resting c;
      pending = pending_after (outermost_block q.nest) (block_at q why at);
      waiting = waiting_after q.cpu.prefix (block_at q why at) why;
    }

-- only what NTSTG stored is left of its stores
unfoldable pub aborted : Why → ℕ → Beside → Beside
aborted why at b =
    let q = b.local.attempt in
    record { local = left_behind b.local.cpu q why at; storage = seen_through q.lasting b.storage }

-- ---- a pending block

abbrev pub storage_with : Option ℕ → Option Pending → Storage → Storage
storage_with prefix None storage = storage
storage_with prefix (Some b) storage = with_bytes_at prefix b.address b.bytes storage

-- the block that is pending is stored
unfoldable pub block_stored : Beside → Beside
block_stored b = record {
  local = record b.local { pending = None };
  storage = storage_with b.local.cpu.prefix b.local.pending b.storage;
}

-- ---- a waiting interruption

abbrev pub taken_by : Option Waiting → Beside → Beside
taken_by None b = b
taken_by (Some w) b =
    let c = b.local.cpu in
    let storage = with_stored_interruption c w b.storage in
    let next = with_new_psw c storage in
    record {
      local = record b.local { cpu = next; attempt = resting next; waiting = None };
      storage = storage;
    }

-- the interruption that waits is taken
unfoldable pub interruption_taken : Beside → Beside
interruption_taken b = taken_by b.local.waiting b
