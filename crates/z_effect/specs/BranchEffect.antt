-- What an instruction of n bytes does that says where to go on.
use Rattle.std.specs.Prelude.{ℕ, ◌+ℤ◌, pos, negsuc, Bool, true, false, not, nat_eq, if◌then◌else◌, Option, Some, None}
use Rattle.z_arith.specs.declared.Width.{Width}
use Rattle.z_arith.specs.declared.Width.TheVariants.{Double}
use Rattle.z_arith.specs.Whole.{bits, modulo}
use Rattle.z_instr.specs.declared.instr.Instr.{Instr}
use Rattle.z_instr.specs.Operands.{first_address, selects}
use Rattle.z_regs.specs.Cpu.{Cpu}
use Rattle.z_regs.specs.declared.image.RunState.TheVariants as state
use Rattle.z_instr.specs.declared.kind.Branch.{Branch}
use Rattle.z_instr.specs.declared.kind.Branch.TheVariants.{OnCondition, OnCount, AndSave, OnCompare, OnCompareImmediate, ServiceCall}
use Rattle.z_instr.specs.declared.kind.Place.{Place}
use Rattle.z_instr.specs.declared.kind.Place.TheVariants.{Register, Address, Relative}
use Rattle.z_instr.specs.declared.kind.Order.TheVariants.{Signed}
use Rattle.z_effect.specs.Registers.{register, operand_in, target, with_general, with_register, with_address, next_address, advanced}
use Rattle.z_effect.specs.Operations.{compared}
use Rattle.z_effect.specs.Outcome.{Outcome, done}

-- where a branch goes, if anywhere
abbrev pub destination : Place → Instr → Cpu → Option ℕ
destination Register i c = if nat_eq i.r2 0 then None else Some (register c i.r2)
destination Address i c = Some (first_address i c.general)
destination Relative i c = Some (target i c)

-- on at the destination where the branch is taken and there is one, else behind the instruction
abbrev pub going : ℕ → Bool → Option ℕ → Cpu → Cpu
going n true (Some a) c = with_address a c
going n true None c = advanced n c
going n false d c = advanced n c

-- one less
abbrev pub counted : Width → Instr → Cpu → ℕ
counted w i c = modulo (bits w) (pos (operand_in w c i.r1) +ℤ negsuc 0)

-- the destination is that of the CPU as it was
unfoldable pub branch_effect : Branch → ℕ → Instr → Cpu → Outcome
branch_effect (OnCondition p) n i c = done (going n (selects i.mask c.condition) (destination p i c) c)
branch_effect (OnCount p w) n i c =
    done (going n (not (nat_eq (counted w i c) 0)) (destination p i c)
    (with_register w i.r1 (counted w i c) c))
branch_effect (AndSave p) n i c =
    done (going n true (destination p i c) (with_general i.r1 (next_address n c) c))
branch_effect (OnCompare o w) n i c =
    done (going n (selects i.mask (compared o w (operand_in w c i.r1) (operand_in w c i.r2)))
    (Some (target i c)) c)
branch_effect OnCompareImmediate n i c =
    done (going n (selects i.mask (compared Signed Double (register c i.r1) (modulo 64 i.d2)))
    (Some (target i c)) c)
branch_effect ServiceCall n i c = done (record (advanced n c) { state = state.Halted })
