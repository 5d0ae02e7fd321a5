-- What one instruction does.
use Rattle.std.specs.Prelude.{ℕ, List}
use Rattle.z_instr.specs.declared.instr.Instr.{Instr}
use Rattle.z_instr.specs.Table.{entry_at}
use Rattle.z_instr.specs.Layout.{form_length}
use Rattle.z_regs.specs.Cpu.{Cpu}
use Rattle.z_instr.specs.declared.kind.Kind.{Kind}
use Rattle.z_instr.specs.declared.kind.Kind.TheVariants as kind
use Rattle.z_instr.specs.Table.{kind_at}
use Rattle.z_effect.specs.GeneralEffect.{general_effect}
use Rattle.z_effect.specs.StorageEffect.{storage_effect}
use Rattle.z_effect.specs.BranchEffect.{branch_effect}
use Rattle.z_effect.specs.TransactionEffect.{transaction_effect}
use Rattle.z_effect.specs.Outcome.{Outcome}

abbrev pub effect : Kind → ℕ → Instr → Cpu → ℕ → List ℕ → Outcome
effect (kind.General g) n i c depth bytes = general_effect g n i c
effect (kind.Storage s) n i c depth bytes = storage_effect s n i c bytes
effect (kind.Branch b) n i c depth bytes = branch_effect b n i c
effect (kind.Transaction t) n i c depth bytes = transaction_effect t n i c depth

-- the length of an instruction in bytes
abbrev pub length_of : Instr → ℕ
length_of i = form_length (entry_at i.op.number).form

-- what an instruction does to a CPU at a nesting depth, by the bytes that it touches, operand by operand
abbrev pub one : Instr → Cpu → ℕ → List ℕ → Outcome
one i c depth bytes = effect (kind_at i.op.number) (length_of i) i c depth bytes
