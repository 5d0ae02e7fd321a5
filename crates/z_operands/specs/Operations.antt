-- Which operation a name is.
use Rattle.std.specs.Prelude.{ℕ, suc, List, [], ◌∷◌, Option, Some, None, codes, if◌then◌else◌}
use Rattle.std.specs.Str.{bytes_eq}
use Rattle.z_instr.specs.Layout.{form_length}
use Rattle.z_instr.specs.Table.{Entry, table, entry_at}
use Rattle.z_operands.specs.declared.operation.Operation.{Operation}
use Rattle.z_operands.specs.declared.operation.Operation.TheVariants.{Instruction, Org, Equ, Ds, Dc, Cpu, Reg}
use Rattle.z_operands.specs.declared.operation.Operation.TheVariants.{Show, Tdb, Sched, Parm, Prefix, End}

-- the directives
unfoldable pub directive_named : List ℕ → Option Operation
directive_named name =
    if bytes_eq name (codes "ORG") then Some Org
    else (if bytes_eq name (codes "EQU") then Some Equ
    else (if bytes_eq name (codes "DS") then Some Ds
    else (if bytes_eq name (codes "DC") then Some Dc
    else (if bytes_eq name (codes "CPU") then Some Cpu
    else (if bytes_eq name (codes "REG") then Some Reg
    else (if bytes_eq name (codes "SHOW") then Some Show
    else (if bytes_eq name (codes "TDB") then Some Tdb
    else (if bytes_eq name (codes "SCHED") then Some Sched
    else (if bytes_eq name (codes "PARM") then Some Parm
    else (if bytes_eq name (codes "PREFIX") then Some Prefix
    else (if bytes_eq name (codes "END") then Some End else None)))))))))))

-- those that place bytes, or say where
unfoldable pub placing_named : List ℕ → Option Operation
placing_named name =
    if bytes_eq name (codes "ORG") then Some Org
    else (if bytes_eq name (codes "EQU") then Some Equ
    else (if bytes_eq name (codes "DS") then Some Ds
    else (if bytes_eq name (codes "DC") then Some Dc else None)))

-- those that say something of the machine, but for PREFIX
unfoldable pub machine_named : List ℕ → Option Operation
machine_named name =
    if bytes_eq name (codes "CPU") then Some Cpu
    else (if bytes_eq name (codes "REG") then Some Reg
    else (if bytes_eq name (codes "SHOW") then Some Show
    else (if bytes_eq name (codes "TDB") then Some Tdb
    else (if bytes_eq name (codes "SCHED") then Some Sched
    else (if bytes_eq name (codes "PARM") then Some Parm
    else (if bytes_eq name (codes "END") then Some End else None))))))

-- the masks of the extended mnemonics, which are branches on condition to a target
unfoldable pub branch_mask : List ℕ → Option ℕ
branch_mask name =
    if bytes_eq name (codes "J") then Some 15
    else (if bytes_eq name (codes "JE") then Some 8
    else (if bytes_eq name (codes "JZ") then Some 8
    else (if bytes_eq name (codes "JNE") then Some 7
    else (if bytes_eq name (codes "JNZ") then Some 7
    else (if bytes_eq name (codes "JH") then Some 2
    else (if bytes_eq name (codes "JP") then Some 2
    else (if bytes_eq name (codes "JL") then Some 4
    else (if bytes_eq name (codes "JM") then Some 4
    else (if bytes_eq name (codes "JO") then Some 1
    else (if bytes_eq name (codes "JNH") then Some 13
    else (if bytes_eq name (codes "JNL") then Some 11
    else (if bytes_eq name (codes "JNO") then Some 14 else None))))))))))))

-- the number of the first row of a name, counted on from a number
abbrev pub row_from : ℕ → List Entry → List ℕ → Option ℕ
row_from n [] name = None
row_from n (e ∷ es) name = if bytes_eq e.name name then Some n else row_from (suc n) es name

unfoldable pub row_named : List ℕ → Option ℕ
row_named name = row_from 0 table name

abbrev pub instruction : Option ℕ → Option ℕ → Option Operation
instruction None mask = None
instruction (Some row) mask = Some (Instruction row mask)

-- an extended mnemonic: a branch on condition, relative or to a register
abbrev pub extended : List ℕ → Option ℕ → Option Operation
extended name (Some mask) = instruction (row_named (codes "BRC")) (Some mask)
extended name None = if bytes_eq name (codes "BR") then instruction (row_named (codes "BCR"))
    (Some 15) else None

abbrev pub or_else : Option Operation → Option Operation → Option Operation
or_else (Some o) other = Some o
or_else None other = other

-- the operation of a name in capitals, if it is one
unfoldable pub operation_named : List ℕ → Option Operation
operation_named name =
    or_else (directive_named name) (or_else (instruction (row_named name) None)
    (extended name (branch_mask name)))

-- how many bytes a row's instructions have
abbrev pub size_of_row : ℕ → ℕ
size_of_row row = form_length (entry_at row).form
