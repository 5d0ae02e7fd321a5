-- What is known of an operation that has a name.
use Rattle.std.specs.Prelude.{ℕ, ◌<◌, Option, Some, None, ⊤}
use Rattle.std.specs.Coded.{Unit-prop, le_prop}
use Rattle.z_instr.specs.declared.table.TheConstants.{ROWS}
use Rattle.z_operands.specs.declared.operation.Operation.{Operation}
use Rattle.z_operands.specs.declared.operation.Operation.TheVariants.{Instruction}

abbrev pub IsMask : Option ℕ → Type 0
IsMask None = ⊤
IsMask (Some mask) = mask < 16

-- the operation is in the table
abbrev pub IsKnown : Operation → Type 0
IsKnown (Instruction row mask) = (row < ROWS) × IsMask mask
IsKnown _ = ⊤

pub is_mask_prop : (mask : Option ℕ) → IsProp (IsMask mask)
is_mask_prop None = Unit-prop
is_mask_prop (Some mask) = le_prop
