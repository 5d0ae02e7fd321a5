-- The bytes of an instruction by its operands.
use Rattle.std.specs.Prelude.{◌≡◌, ℕ, List, take, Option, Some, Result, Ok, Err}
use Rattle.z_decode.specs.declared.encoding.Code.{Code}
use Rattle.z_instr.specs.declared.instr.Fields.{Fields}
use Rattle.z_instr.specs.Reading.{code}
use Rattle.z_instr.specs.Table.{Entry}
use Rattle.z_operands.specs.Operands.{instruction_in, allowed}
use Rattle.z_fields.specs.Chain.{◌>>=◌}
use Rattle.z_fields.specs.declared.fault.Kind.{Kind}
use Rattle.z_operands.specs.declared.operand.Operand.{Operand}

-- the bytes of a row's instruction of these fields
unfoldable pub code_of : Entry → Fields → List ℕ
code_of e f = code e f

abbrev pub allowed_code : Entry → Fields → Result (List ℕ) Kind
allowed_code e f = allowed e (Some f) >>= λ g. Ok (code_of e g)

-- the bytes of an instruction by its operands, or what is wrong with these
abbrev pub code_for : Entry → Option ℕ → ℕ → List Operand → Result (List ℕ) Kind
code_for e mask here os = instruction_in e mask here os >>= λ f. Ok (code_of e f)

-- these bytes, or this fault
abbrev pub IsCode : Result Code Kind → Result (List ℕ) Kind → Type 0
IsCode (Ok code) given = given ≡ Ok (take code.length code.bytes)
IsCode (Err k) given = given ≡ Err k
