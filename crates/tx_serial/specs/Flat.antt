-- The flat state: storage as one table of bytes, and all that is known of each CPU.
use Rattle.std.specs.Prelude.{ℕ, suc, ◌==◌, cond, if◌then◌else◌, List, [], ◌∷◌, ◌++◌, map, take, drop, Option}
use Rattle.std.specs.Prelude.{Some, None}
use Rattle.std.specs.List.{flat_map, range_with_len}
use Rattle.z_regs.specs.Cpu.{Cpu}
use Rattle.z_regs.specs.Prefix.{storage_size, absolute_of}
use Rattle.z_regs.specs.declared.ranges.Range.{Range}
use Rattle.z_regs.specs.declared.waiting.Waiting.{Waiting}
use Rattle.z_instr.specs.Operands.{from_up}
use Rattle.store_cache.specs.Overlay.{Store}

-- ---- tables

-- a table with another value at one place
abbrev pub at_put : {A : Type 0} → (ℕ → A) → ℕ → A → ℕ → A
at_put table place value other = if other == place then value else table other

-- ---- the state

-- the byte at each absolute address. Addresses behind the end of storage have one too, which no instruction
-- reaches.
abbrev pub Storage : Type 0
Storage = ℕ → ℕ

-- the bytes at all addresses below n, in order, and those of storage
unfoldable pub bytes_below : ℕ → Storage → List ℕ
bytes_below n storage = map storage (range_with_len 0 n)

abbrev pub bytes_of : Storage → List ℕ
bytes_of storage = bytes_below storage_size storage

-- a diagnostic block that is still to be stored: its real address, and its 256 bytes
pub record Pending : Type 0 where
  pub address : ℕ
  pub bytes : List ℕ

-- the address of a block, where there is one
abbrev pub address_of : Option Pending → Option ℕ
address_of None = None
address_of (Some b) = Some b.address

-- storage and its text pages, and for each CPU what it holds, the block that is pending for it, and the
-- interruption that it has still to take. A CPU that is not there is halted, and has neither.
pub record FlatState : Type 0 where
  pub storage : Storage
  pub text : List ℕ
  pub cpus : ℕ → Cpu
  pub pending : ℕ → Option Pending
  pub waiting : ℕ → Option Waiting

abbrev pub with_cpu : ℕ → Cpu → FlatState → FlatState
with_cpu i c f = record f { cpus = at_put f.cpus i c }

abbrev pub with_pending : ℕ → Option Pending → FlatState → FlatState
with_pending i block f = record f { pending = at_put f.pending i block }

abbrev pub with_waiting : ℕ → Option Waiting → FlatState → FlatState
with_waiting i interruption f = record f { waiting = at_put f.waiting i interruption }

abbrev pub with_storage : Storage → FlatState → FlatState
with_storage storage f = record f { storage = storage }

-- ---- bytes by real addresses

-- so many bytes from a real address on, as a CPU with this prefix sees them
abbrev pub bytes_seen : Option ℕ → Storage → ℕ → ℕ → List ℕ
bytes_seen prefix storage first length = map (λ a. storage (absolute_of prefix a)) (from_up first length)

-- the bytes of operands, one operand after the other
abbrev pub operand_bytes : Option ℕ → Storage → List Range → List ℕ
operand_bytes prefix storage ranges = flat_map (λ r. bytes_seen prefix storage r.first r.length) ranges

-- ---- stores, in the order in which they are made

-- bytes from a real address on
abbrev pub stores_at : Option ℕ → ℕ → List ℕ → List Store
stores_at prefix a [] = []
stores_at prefix a (byte ∷ bytes) =
    record { address = absolute_of prefix a; byte = byte } ∷ stores_at prefix (suc a) bytes

-- the new bytes of operands: the stored ones take them, one operand after the other
abbrev pub operand_stores : Option ℕ → List Range → List ℕ → List Store
operand_stores prefix [] bytes = []
operand_stores prefix (r ∷ rs) bytes =
    cond r.store
    (stores_at prefix r.first (take r.length bytes) ++ operand_stores prefix rs (drop r.length bytes))
    (operand_stores prefix rs bytes)

-- storage after stores, one after the other
unfoldable pub laid_over : Storage → List Store → Storage
laid_over storage [] = storage
laid_over storage (s ∷ rest) = laid_over (at_put storage s.address s.byte) rest

-- storage after bytes went to a real address
abbrev pub with_bytes_at : Option ℕ → ℕ → List ℕ → Storage → Storage
with_bytes_at prefix a bytes storage = laid_over storage (stores_at prefix a bytes)
