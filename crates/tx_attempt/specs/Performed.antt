-- What performing an instruction tells, and what it leaves.
use Rattle.std.specs.Prelude.{ℕ, ◌+◌, ◌<◌, ◌≡◌, cond, get_or, List, [], ◌∷◌, take, Result, Ok, Err}
use Rattle.std.specs.Prelude.{if◌then◌else◌, nat_eq, map, Option, Some, None, Bool, true, false}
use Rattle.z_regs.specs.Cpu.{Cpu}
use Rattle.z_regs.specs.Prefix.{absolute_of}
use Rattle.z_regs.specs.declared.ranges.Range.{Range}
use Rattle.z_touch.specs.Refusals.{span_of}
use Rattle.z_effect.specs.After.{cpu_after, storage_after, range_at}
use Rattle.z_effect.specs.Outcome.{Outcome, Did, Overflowed, Divides, Aborts}
use Rattle.z_effect.specs.Outcome as outcome
use Rattle.z_instr.specs.declared.kind.Kind.{Kind}
use Rattle.z_instr.specs.declared.kind.Kind.TheVariants as kind
use Rattle.z_instr.specs.declared.kind.Transaction.{Transaction}
use Rattle.z_instr.specs.declared.kind.Transaction.TheVariants.{StoreLasting}
use Rattle.tx_control.specs.Codes.{fixed_point_divide_code}
use Rattle.tx_control.specs.declared.exceptions.Exception.{Exception}
use Rattle.z_regs.specs.declared.waiting.Waiting.{Waiting}
use Rattle.tx_serial.specs.Flat.{Storage, laid_over, operand_stores}
use Rattle.tx_serial.specs.Remains.{waiting_with}
use Rattle.tx_attempt.specs.Storages.{storage_of}
use Rattle.tx_attempt.specs.declared.performing.Ended.{Ended}
use Rattle.tx_attempt.specs.declared.performing.Ended.TheVariants as ended

-- how it ended
abbrev pub ended_of : Outcome → Ended
ended_of (Did c bytes) = ended.Completed
ended_of (Overflowed c bytes) = ended.Exceeded
ended_of Divides = ended.Suppressed
ended_of (Aborts code) = ended.Aborting code

-- what the answer of a call says of that
abbrev pub ended_in : Result (Unit {0}) Exception → Ended
ended_in (Ok u) = ended.Completed
ended_in (Err e) = if nat_eq e.code fixed_point_divide_code then ended.Suppressed else ended.Exceeded

-- a call tells how the instruction ended, and leaves the CPU and what it sees of storage
pub record IsLeft (o : Outcome) (ranges : List Range) (old new : Cpu) (s t : List ℕ) (e : Ended) : Type 0
  where
    pub told : e ≡ ended_of o
    pub image : new ≡ cpu_after old o
    pub view : t ≡ storage_after (map span_of ranges) s o

-- an outcome with the first n stored bytes
abbrev pub trimmed : ℕ → Outcome → Outcome
trimmed n (Did c bytes) = Did c (take n bytes)
trimmed n (Overflowed c bytes) = outcome.Overflowed c (take n bytes)
trimmed n Divides = outcome.Divides
trimmed n (Aborts code) = outcome.Aborts code

-- the outcome of that end, which leaves this CPU and these bytes
abbrev pub outcome_from : Ended → Cpu → List ℕ → Outcome
outcome_from ended.Completed c bytes = Did c bytes
outcome_from ended.Exceeded c bytes = outcome.Overflowed c bytes
outcome_from ended.Suppressed c bytes = outcome.Divides
outcome_from (ended.Aborting code) c bytes = outcome.Aborts code

-- how many bytes the first operand stores
abbrev pub first_size : List Range → ℕ
first_size [] = 0
first_size (r ∷ rs) = cond r.store r.length 0

-- the operand that is not there
abbrev pub no_range : Range
no_range = record { first = 0; length = 0; store = false }

-- each byte of a range is that of storage, by real addresses
abbrev pub IsFetched : Option ℕ → Storage → List ℕ → Range → Type 0
IsFetched prefix s t r = (k : ℕ) → k < r.length → get_or t (r.first + k) 0 ≡ s (absolute_of prefix (r.first +
    k))

abbrev pub is_transaction : Kind → Bool
is_transaction (kind.Transaction t) = true
is_transaction (kind.General g) = false
is_transaction (kind.Storage s) = false
is_transaction (kind.Branch b) = false

-- how many bytes a transaction instruction stores
abbrev pub lasting_size : Transaction → ℕ
lasting_size StoreLasting = 8
lasting_size _ = 0

-- what a transaction instruction does; of any other kind nothing
abbrev pub transaction_in : Kind → Option Transaction
transaction_in (kind.Transaction t) = Some t
transaction_in (kind.General g) = None
transaction_in (kind.Storage s) = None
transaction_in (kind.Branch b) = None

-- the bytes of the first operand where it is stored
abbrev pub first_bytes : List Range → List ℕ → List ℕ
first_bytes [] s = []
first_bytes (r ∷ rs) s = cond r.store (range_at s r.first r.length) []

-- no operand is stored into, or none but the first
abbrev pub StoresNone : List Range → Type 0
StoresNone [] = Unit {0}
StoresNone (r ∷ rs) = (r.store ≡ false) × StoresNone rs

abbrev pub StoresFirst : List Range → Type 0
StoresFirst [] = Unit {0}
StoresFirst (r ∷ rs) = StoresNone rs

-- ---- outside transactions

-- the interruption that waits after an instruction of n bytes that has ended so
abbrev pub waiting_outside : Option ℕ → ℕ → Ended → Option Waiting → Option Waiting
waiting_outside prefix n ended.Completed before = before
waiting_outside prefix n ended.Exceeded before = waiting_with prefix n None
waiting_outside prefix n ended.Suppressed before = waiting_with prefix n None
waiting_outside prefix n (ended.Aborting code) before = before

-- storage after its outcome
abbrev pub storage_left : Option ℕ → List Range → Outcome → Storage → Storage
storage_left prefix ranges (Did c bytes) s = laid_over s (operand_stores prefix ranges bytes)
storage_left prefix ranges (Overflowed c bytes) s = laid_over s (operand_stores prefix ranges bytes)
storage_left prefix ranges Divides s = s
storage_left prefix ranges (Aborts code) s = s

-- outside transactions, an instruction has ended as its outcome says, and has left the CPU and storage so
pub record IsLeftOutside (ranges : List Range) (old new : Cpu) (s t : List ℕ) (e : Ended) (o : Outcome)
    : Type 0 where
  pub told : e ≡ ended_of o
  pub image : new ≡ cpu_after old o
  pub storage : storage_of t ≡ storage_left old.prefix ranges o (storage_of s)

-- storage after it, with the bytes of its operands that are stored
abbrev pub storage_outside : Option ℕ → List Range → Ended → List ℕ → Storage → Storage
storage_outside prefix ranges ended.Completed bytes s = laid_over s (operand_stores prefix ranges bytes)
storage_outside prefix ranges ended.Exceeded bytes s = laid_over s (operand_stores prefix ranges bytes)
storage_outside prefix ranges ended.Suppressed bytes s = s
storage_outside prefix ranges (ended.Aborting code) bytes s = s

-- so many bytes that are kept apart, and the end, are those of its outcome, and so is the CPU
pub record IsKeptApart (o : Outcome) (n : ℕ) (old new : Cpu) (stored : List ℕ) (e : Ended) : Type 0 where
  pub value : outcome_from e new (take n stored) ≡ trimmed n o
  pub image : new ≡ cpu_after old o
