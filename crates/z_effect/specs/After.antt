-- What an instruction leaves: its answer, the CPU and storage.
use Rattle.std.specs.Prelude.{◌≡◌, ◌≤◌, ◌<◌, ◌⊎◌, ℕ, ◌+◌, true, false, cond, List, [], ◌∷◌, ◌++◌, length, take, drop, Result, Ok, Err}
use Rattle.tx_control.specs.declared.exceptions.Exception.{Exception}
use Rattle.tx_control.specs.Codes.{fixed_point_overflow_code, fixed_point_divide_code}
use Rattle.z_instr.specs.declared.instr.Instr.{Instr}
use Rattle.z_instr.specs.Operands.{Span, spans}
use Rattle.z_regs.specs.Cpu.{Cpu}
pub use Rattle.z_regs.specs.Written.{range_at, written}
use Rattle.z_effect.specs.Outcome.{Outcome, Did, Overflowed, Divides, Aborts}
use Rattle.z_effect.specs.One.{one, length_of}

-- ---- ranges of storage

-- the bytes of ranges, one range after the other
abbrev pub touched : List Span → List ℕ → List ℕ
touched [] s = []
touched (r ∷ []) s = range_at s r.first r.length
touched (r ∷ q ∷ rs) s = range_at s r.first r.length ++ touched (q ∷ rs) s

-- storage where the stored ranges have new bytes, one range after the other
abbrev pub with_stored : List Span → List ℕ → List ℕ → List ℕ
with_stored [] bytes s = s
with_stored (r ∷ rs) bytes s =
    cond r.store (with_stored rs (drop r.length bytes) (written s r.first (take r.length bytes)))
    (with_stored rs bytes s)

-- the ranges lie in storage
abbrev pub AreInside : List Span → List ℕ → Type 0
AreInside [] s = Unit {0}
AreInside (r ∷ rs) s = (r.first + r.length ≤ length s) × AreInside rs s

-- an address lies in no stored range
abbrev pub IsBeside : ℕ → List Span → Type 0
IsBeside k [] = Unit {0}
IsBeside k (r ∷ rs) = (r.store ≡ true → (k < r.first) ⊎ (r.first + r.length ≤ k)) × IsBeside k rs

-- ---- after an instruction of n bytes

abbrev pub exception : ℕ → ℕ → Exception
exception code n = record { code = code; fetch = false; length = n }

-- how an instruction ends: it is done, it raises an exception, or it aborts the transaction with a code
pub data Ending : Type 0 where
  Done : Ending
  Raises : Exception → Ending
  AbortsWith : ℕ → Ending

abbrev pub answer_of : ℕ → Outcome → Ending
answer_of n (Did c bytes) = Done
answer_of n (Overflowed c bytes) = Raises (exception fixed_point_overflow_code n)
answer_of n Divides = Raises (exception fixed_point_divide_code n)
answer_of n (Aborts code) = AbortsWith code

-- what the answer of a call says of that; no call that answers so stands for an abort
abbrev pub told : Result (Unit {0}) Exception → Ending
told (Ok u) = Done
told (Err e) = Raises e

abbrev pub cpu_after : Cpu → Outcome → Cpu
cpu_after old (Did c bytes) = c
cpu_after old (Overflowed c bytes) = c
cpu_after old Divides = old
cpu_after old (Aborts code) = old

abbrev pub storage_after : List Span → List ℕ → Outcome → List ℕ
storage_after rs s (Did c bytes) = with_stored rs bytes s
storage_after rs s (Overflowed c bytes) = with_stored rs bytes s
storage_after rs s Divides = s
storage_after rs s (Aborts code) = s

-- a call answers and leaves a CPU as the outcome says
pub record Sets (o : Outcome) (n : ℕ) (old new : Cpu) (r : Result (Unit {0}) Exception) : Type 0 where
  pub answer : told r ≡ answer_of n o
  pub image : new ≡ cpu_after old o

-- and storage, by the ranges
pub record Leaves (o : Outcome) (n : ℕ) (ranges : List Span) (old new : Cpu) (s t : List ℕ)
    (r : Result (Unit {0}) Exception) : Type 0 where
  pub answer : told r ≡ answer_of n o
  pub image : new ≡ cpu_after old o
  pub view : t ≡ storage_after ranges s o

-- the operands of an instruction of a CPU
abbrev pub ranges_of : Instr → Cpu → List Span
ranges_of i c = spans i c.general c.condition

-- a call does what the instruction does at a nesting depth, to a CPU and to what it sees of storage
abbrev pub Executes : ℕ → Instr → Cpu → Cpu → List ℕ → List ℕ → Result (Unit {0}) Exception → Type 0
Executes depth i old new s t r =
    Leaves (one i old depth (touched (ranges_of i old) s)) (length_of i) (ranges_of i old) old new s t r
