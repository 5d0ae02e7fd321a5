-- Where an instruction has its opcode, and how long it is: both follow from its layout.
use Rattle.std.specs.Prelude.{ℕ, ◌/◌, ◌^◌, List, length, take, nat_eq, nat_lt, if◌then◌else◌}
use Rattle.z_instr.specs.declared.form.Form.{Form}
use Rattle.z_instr.specs.declared.format.Place.{Place}
use Rattle.z_instr.specs.declared.format.Place.TheVariants.{First, FirstTwo, FirstHalf, Ends}
use Rattle.z_instr.specs.declared.layout.Digit.{Digit}
use Rattle.z_instr.specs.Layouts.{layout, width}

-- where the digits of the opcode stand, by how many of the first four there are, and how many of all
abbrev pub place_in : List Digit → Place
place_in ds =
    if nat_eq (width (take 4 ds) 0) 4 then FirstTwo
    else if nat_eq (width (take 4 ds) 0) 3 then FirstHalf
    else if nat_eq (width ds 0) 4 then Ends
    else First

abbrev pub place : Form → Place
place form = place_in (layout form)

-- how many opcodes a place has room for
abbrev pub room : Place → ℕ
room First = 2 ^ 8
room FirstTwo = 2 ^ 16
room FirstHalf = 2 ^ 12
room Ends = 2 ^ 16

-- the first byte of an instruction, by its opcode
abbrev pub lead : Place → ℕ → ℕ
lead First opcode = opcode
lead FirstTwo opcode = opcode / 256
lead FirstHalf opcode = opcode / 16
lead Ends opcode = opcode / 256

-- the bytes of an instruction, by the first two bits of its first byte
abbrev pub length_by : ℕ → ℕ
length_by first = if nat_lt first 64 then 2 else if nat_lt first 192 then 4 else 6

-- the bytes of a form's instructions: two digits make one
abbrev pub form_length : Form → ℕ
form_length form = length (layout form) / 2
