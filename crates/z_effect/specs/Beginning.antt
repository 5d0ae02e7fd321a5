-- What a begin opens.
use Rattle.std.specs.Prelude.{ℕ, Bool, true, false, List}
use Rattle.tx_control.specs.declared.begins.Begin.{Begin}
use Rattle.tx_control.specs.Begins.{asked_by}
use Rattle.z_instr.specs.declared.instr.Instr.{Instr}
use Rattle.z_instr.specs.declared.operand.Demand.{Demand}
use Rattle.z_instr.specs.declared.operand.Demand.TheVariants.{BeginConstrained}
use Rattle.z_instr.specs.Table.{entry_at}
use Rattle.z_instr.specs.Reading.{modulo}
use Rattle.z_instr.specs.Roles.{block_named}

abbrev pub is_constrained : Demand → Bool
is_constrained BeginConstrained = true
is_constrained _ = false

-- by the controls of its immediate, the block that it names, and whether the transaction is constrained
abbrev pub begin_of : Instr → List ℕ → Begin
begin_of i general =
    asked_by (modulo 16 i.imm) (block_named i general) (is_constrained (entry_at i.op.number).demand)
