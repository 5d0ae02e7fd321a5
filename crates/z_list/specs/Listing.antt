-- The listing of an image: a line for each of its instructions.
use Rattle.std.specs.Prelude.{◌≡◌, ℕ, ◌*◌, ◌-◌, List, [], ◌++◌, length, take, drop, replicate, codes, Option, Some, None}
use Rattle.std.specs.List.{flat_map}
use Rattle.std.specs.Int.{to_be_bytes}
use mir.Syntax.{w32}
use Rattle.hex.specs.Hex.{encode_lower}
use Rattle.z_instr.specs.declared.instr.Instr.{Instr}
use Rattle.z_instr.specs.Computing.{reading_of}
use Rattle.z_instr.specs.Reading.{Reads}
use Rattle.tx_journal.specs.Content.{Content}
use Rattle.tx_journal.specs.Image.{length_at}
use Rattle.z_list.specs.Operands.{instruction_text}

-- the bytes of the instruction at an address
abbrev pub code_at : List ℕ → ℕ → List ℕ
code_at storage start = take (length_at storage start) (drop start storage)

-- bytes in hexadecimal, with blanks up to twelve places
abbrev pub code_field : List ℕ → List ℕ
code_field code = encode_lower code ++ replicate (12 - 2 * length code) 32

-- the address in eight digits, the bytes, the mnemonic and the operands
abbrev pub line_text : ℕ → List ℕ → Instr → List ℕ
line_text start code i =
    encode_lower (to_be_bytes w32 start)
    ++ (codes " " ++ (code_field code ++ (codes " " ++ (instruction_text i ++ codes "\n"))))

-- the line of bytes that read as an instruction, nothing where they read as none
abbrev pub line_for : ℕ → List ℕ → Option Instr → List ℕ
line_for start code None = []
line_for start code (Some i) = line_text start code i

-- the line of the instruction at an address
abbrev pub line_at : List ℕ → ℕ → List ℕ
line_at storage start = line_for start (code_at storage start) (reading_of (code_at storage start))

-- the listing of an image: the lines of all its instructions, in rising order of their addresses
abbrev pub list_of : Content → List ℕ
list_of image = flat_map (line_at image.storage) image.starts

-- the bytes at an address read as an instruction, and its line is that of the address
pub record HasLine (storage : List ℕ) (start : ℕ) : Type 0 where
  pub instr : Instr
  pub reads : Reads (code_at storage start) instr
  pub line : line_at storage start ≡ line_text start (code_at storage start) instr
