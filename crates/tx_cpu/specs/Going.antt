-- What holds of an instruction that goes.
use Rattle.std.specs.Prelude.{◌≡◌, ℕ, ◌+◌, ◌<◌, ◌≤◌, Bool, true, false}
use Rattle.std.specs.Prelude.{◌&&◌, nat_eq, length, All, List, [], Some, None}
use Rattle.z_regs.specs.Absolute.{IsAccessible}
use Rattle.z_regs.specs.Cpu.{Cpu}
use Rattle.z_regs.specs.Prefix.{storage_size}
use Rattle.z_regs.specs.declared.ranges.Range.{Range}
use Rattle.z_instr.specs.declared.instr.Instr.{Instr}
use Rattle.z_instr.specs.Roles.{is_end, block_named}
use Rattle.z_instr.specs.Table.{entry_at, kind_at}
use Rattle.tx_serial.specs.Fate.{operands}
use Rattle.z_instr.specs.Roles.{stores_lastingly}
use Rattle.tx_attempt.specs.Advancing.{MayAdvance}
use Rattle.tx_attempt.specs.Gathered.{IsStoredDoubleword}
use Rattle.tx_attempt.specs.Performed.{is_transaction, IsFetched, StoresNone}
use Rattle.tx_attempt.specs.Storages.{storage_of}
use Rattle.tx_attempt.specs.Tracked.{Tracked}
use Rattle.tx_progress.specs.Progress.{Progress, is_live, seen_through}
use Rattle.tx_progress.specs.declared.done.Done.{Done}
use Rattle.tx_progress.specs.declared.done.Done.TheVariants.{Stepped}

-- Its operands are those of the CPU, and accessible; the CPU is in storage, and so is the block that
-- an outermost
-- begin names; a live attempt may advance by it, unless it ends the last begin that is open; and NTSTG
-- stores a
-- doubleword on its boundary.
pub record MayGo (t : Tracked) (c : Cpu) (i : Instr) (need : List Range) : Type 0 where
  pub operands_are : need ≡ operands i c
  pub accessible : All (IsAccessible c.prefix) need
  pub place : c.address < storage_size
  pub block : t.nest ≡ [] → (a : ℕ) → block_named i c.general ≡ Some a → a + 256 ≤ storage_size
  pub advances : 0 < length t.nest → (is_end (entry_at i.op.number) && nat_eq (length t.nest) 1) ≡ false
      → MayAdvance t i c.prefix need
  pub lasting : stores_lastingly (entry_at i.op.number) ≡ true → IsStoredDoubleword need

-- what an instruction inside a transaction tells: that it is completed where it simply is, else what is kept aside
abbrev pub told_or : Bool → Done → Done
told_or true aside = Stepped
told_or false aside = aside

-- an attempt sees operands as they are in storage, and nothing is stored into any of them
pub record IsSeenThere (q : Progress) (need : List Range) : Type 0 where
  pub fetches : StoresNone need
  pub seen : (s : List ℕ) → All (IsFetched q.cpu.prefix (seen_through q.overlay (storage_of s)) s) need

-- so an instruction may be executed on storage as it is, for a CPU without a prefix: it is not about transactions, and where
-- an attempt is live, that sees the operands there
pub record GoesThere (q : Progress) (i : Instr) (need : List Range) : Type 0 where
  pub plain : is_transaction (kind_at i.op.number) ≡ false
  pub bare : q.cpu.prefix ≡ None
  pub there : is_live q ≡ true → IsSeenThere q need
