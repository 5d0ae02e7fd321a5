-- What bytes show of the row that they belong to: an opcode in its place, and zeros where no field stands.
use Rattle.std.specs.Prelude.{◌≡◌, ℕ, ◌+◌, ◌*◌, ◌%◌, List, get_or, Bool, nat_eq}
use Rattle.z_instr.specs.declared.format.Place.{Place}
use Rattle.z_instr.specs.declared.format.Place.TheVariants.{First, FirstTwo, FirstHalf, Ends}
use Rattle.z_instr.specs.Table.{Entry}
use Rattle.z_instr.specs.Layout.{place}
use Rattle.z_instr.specs.Layouts.{layout_of, taken}

-- the opcode that bytes have in a place
abbrev pub opcode_at : Place → List ℕ → ℕ
opcode_at First bytes = get_or bytes 0 0
opcode_at FirstTwo bytes = get_or bytes 0 0 * 256 + get_or bytes 1 0
opcode_at FirstHalf bytes = get_or bytes 0 0 * 16 + get_or bytes 1 0 % 16
opcode_at Ends bytes = get_or bytes 0 0 * 256 + get_or bytes 5 0

-- the bytes have the row's opcode in its place
abbrev pub HasOpcode : Entry → List ℕ → Type 0
HasOpcode e bytes = opcode_at (place e.form) bytes ≡ e.opcode

-- the bits that no field uses are zero
abbrev pub is_spare_zero : Entry → List ℕ → Bool
is_spare_zero e bytes = nat_eq (taken (layout_of e) bytes 11) 0
