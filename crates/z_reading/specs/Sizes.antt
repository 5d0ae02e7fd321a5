-- What is known of a line that is read again.
use Rattle.std.specs.Prelude.{ℕ, ◌+◌, ◌<◌, ◌≤◌, ⊤}
use Rattle.std.specs.Coded.{×_prop, Unit-prop, le_prop}
use Rattle.z_instr.specs.declared.table.TheConstants.{ROWS}
use Rattle.z_operands.specs.Operations.{size_of_row}
use Rattle.z_operands.specs.Sizes.{IsMask, is_mask_prop}
use Rattle.z_operands.specs.declared.operation.Operation.{Operation}
use Rattle.z_operands.specs.declared.operation.Operation.TheVariants.{Instruction}

-- the operation is in the table, and its bytes are in storage
abbrev pub IsPlaced : ℕ → Operation → Type 0
IsPlaced here (Instruction row mask) = (row < ROWS) × ((here + size_of_row row ≤ 1048576) × IsMask mask)
IsPlaced here _ = ⊤

pub placed_prop : (here : ℕ) (op : Operation) → IsProp (IsPlaced here op)
placed_prop here (Instruction row mask) = ×_prop le_prop (×_prop le_prop (is_mask_prop mask))
placed_prop here _ = Unit-prop
