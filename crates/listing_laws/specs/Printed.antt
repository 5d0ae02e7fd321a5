-- An instruction's printed line, and what it is to assemble it again.
use Rattle.std.specs.Prelude.{◌≡◌, ℕ, ◌<◌, List, ◌++◌, codes, false, None, Ok}
use Rattle.z_instr.specs.declared.instr.Instr.{Instr}
use Rattle.z_instr.specs.Reading.{Reads}
use Rattle.z_regs.specs.Prefix.{storage_size}
use Rattle.z_operands.specs.declared.operation.Operation.TheVariants.{Instruction}
use Rattle.z_reading.specs.Listing.{Plan, Task, line_gives, instruction_line}
use Rattle.z_setup.specs.Machine.{Machine, Known, task_gives}
use Rattle.z_reading.specs.Text.{write_at}
use Rattle.z_list.specs.Operands.{instruction_text}

-- the mnemonic and the operands as the disassembler prints them, behind a blank
abbrev pub printed_line : Instr → List ℕ
printed_line i = codes " " ++ instruction_text i

-- The first reading takes the line, before END, for an instruction of that operation without a label: it
-- makes room for it at the location, and keeps the line for the second reading.
abbrev pub TakesAgain : Instr → Type 0
TakesAgain i = (n : ℕ) (p : Plan) → p.ended ≡ false →
    line_gives n (printed_line i) p ≡ instruction_line n (codes "") (printed_line i) i.op.number None p

-- The second reading of the line writes the bytes that read as the instruction, wherever the line stands and
-- whatever the labels are, and changes nothing else.
abbrev pub GivesBack : Instr → Type 0
GivesBack i = (k : Known) (t : Task) (m : Machine) (bytes : List ℕ) →
    t.text ≡ printed_line i → t.operation ≡ Instruction i.op.number None → t.here < storage_size →
    Reads bytes i → task_gives k t m ≡ Ok (record m { storage = write_at t.here bytes m.storage })
