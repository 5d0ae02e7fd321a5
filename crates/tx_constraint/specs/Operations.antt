-- What the constraints ask of an operation.
use Rattle.std.specs.Prelude.{ℕ, Bool, true, false, ◌&&◌, ◌||◌, not, if◌then◌else◌, ℤ, pos, negsuc, nat_lt}
use Rattle.z_instr.specs.declared.instr.Instr.{Instr}
use Rattle.z_instr.specs.declared.operand.Operands.{Operands}
use Rattle.z_instr.specs.declared.operand.Operands.TheVariants.{FetchedMany, StoredMany}
use Rattle.z_instr.specs.Table.{entry_at}
use Rattle.z_instr.specs.Layout.{form_length}
use Rattle.z_instr.specs.Roles.{is_end, is_relative_branch}

-- the instruction is TEND, which ends the transaction
abbrev pub ends : Instr → Bool
ends i = is_end (entry_at i.op.number)

-- the distance of the target is above zero
abbrev pub is_ahead : ℤ → Bool
is_ahead (pos n) = nat_lt 0 n
is_ahead (negsuc n) = false

-- the table permits the operation, and a branch with a target goes ahead, whether it is taken or not
abbrev pub is_permitted : Instr → Bool
is_permitted i =
    (entry_at i.op.number).permitted && (not (is_relative_branch (entry_at i.op.number)) || is_ahead i.imm)

-- the operations on several registers: LM, LMG, STM, STMG
abbrev pub is_multiple : Operands → Bool
is_multiple (FetchedMany size) = true
is_multiple (StoredMany size) = true
is_multiple _ = false

-- where an operand has to lie: in an octoword for operations on several registers, in a doubleword for all
-- others
abbrev pub unit_of : Instr → ℕ
unit_of i = if is_multiple (entry_at i.op.number).operands then 32 else 8

abbrev pub bytes_of : Instr → ℕ
bytes_of i = form_length (entry_at i.op.number).form
