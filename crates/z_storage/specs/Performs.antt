-- What an operation on storage leaves.
use Rattle.std.specs.Prelude.{ℕ, List, Result}
use Rattle.tx_control.specs.declared.exceptions.Exception.{Exception}
use Rattle.z_instr.specs.declared.instr.Instr.{Instr}
use Rattle.z_instr.specs.Operands.{Span, spans_in}
use Rattle.z_regs.specs.Cpu.{Cpu}
use Rattle.z_instr.specs.declared.kind.Storage.{Storage}
use Rattle.z_instr.specs.Kinds.{storage_operands}
use Rattle.z_effect.specs.StorageEffect.{storage_effect}
use Rattle.z_effect.specs.After.{touched, Leaves}

-- the ranges that an operation touches
abbrev pub ranges : Storage → Instr → Cpu → List Span
ranges k i c = spans_in (storage_operands k) i c.general c.condition

-- A call does what an operation on storage does, as an instruction of n bytes, to a CPU and to what it sees
-- of storage.
abbrev pub Performs : Storage → ℕ → Instr → Cpu → Cpu → List ℕ → List ℕ → Result (Unit {0}) Exception → Type 0
Performs k n i old new s t r =
    Leaves (storage_effect k n i old (touched (ranges k i old) s)) n (ranges k i old) old new s t r
