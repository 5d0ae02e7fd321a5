-- The first reading of the lines: labels, the location, and what is placed.
use Rattle.std.specs.Prelude.{ℕ, ℤ, pos, negsuc, ◌+◌, ◌%◌, ◌^◌, Bool, true, false, not, ◌&&◌, ◌||◌, List, []}
use Rattle.std.specs.Prelude.{◌∷◌, ◌++◌, length, drop, map, Option, Some, None, is_some, Result, Ok, Err}
use Rattle.std.specs.Prelude.{nat_lt, nat_le, ◌==◌, if◌then◌else◌, slice_set}
use Rattle.std.specs.List.{list_any}
use Rattle.std.specs.Str.{bytes_eq}
use Rattle.z_text.specs.Labels.{value_in}
use Rattle.z_text.specs.Line.{span, past, is_blank, is_inked}
use Rattle.z_text.specs.Tokens.{tokens_of}
use Rattle.z_text.specs.declared.token.TextFault.{TextFault}
use Rattle.z_text.specs.declared.token.TextFault.TheVariants as texts
use Rattle.z_text.specs.declared.token.Token.{Token}
use Rattle.z_instr.specs.Ranges.{is_within, bounds}
use Rattle.z_fields.specs.Data.{data_of}
use Rattle.z_operands.specs.Operations.{operation_named, size_of_row}
use Rattle.z_fields.specs.Chain.{◌>>=◌}
use Rattle.z_reading.specs.Text.{write_at, cut, copies}
use Rattle.z_operands.specs.Values.{Table, operands_on, one_in}
use Rattle.z_reading.specs.declared.draft.Draft.{Draft}
use Rattle.z_reading.specs.declared.kept.Kept.{Kept}
use Rattle.z_reading.specs.declared.kept.Work.{Work}
use Rattle.z_reading.specs.declared.works.Works.{Works}
use Rattle.z_fields.specs.declared.fault.Kind.{Kind}
use Rattle.z_fields.specs.declared.fault.Kind.TheVariants.{BadToken, BadNumber, LineTooLong}
use Rattle.z_fields.specs.declared.fault.Kind.TheVariants.{UnknownMnemonic, OutOfRange, DoubleLabel}
use Rattle.z_fields.specs.declared.fault.Kind.TheVariants.{Overlap, BadDirective}
use Rattle.z_operands.specs.declared.operation.Operation.{Operation}
use Rattle.z_operands.specs.declared.operation.Operation.TheVariants.{Instruction, Org, Equ, Ds, Dc, Cpu, Reg}
use Rattle.z_operands.specs.declared.operation.Operation.TheVariants.{Show, Tdb, Sched, Parm, Prefix, End}

-- a line that is read again when all labels are known: its number, its location, its text and its operation
pub record Task : Type 0 where
  pub line : ℕ
  pub here : ℕ
  pub text : List ℕ
  pub operation : Operation

-- what the lines so far have made: the location, the labels, the bytes, which of them are placed and at which
-- an instruction starts, whether END was there, how many CPUs there are, and the lines that are read again
pub record Plan : Type 0 where
  pub here : ℕ
  pub labels : Table
  pub storage : List ℕ
  pub taken : List Bool
  pub begins : List Bool
  pub ended : Bool
  pub cpus : ℕ
  pub tasks : List Task

abbrev pub task_of : Work → Task
task_of w = record { line = w.line; here = w.here; text = w.text.now; operation = w.operation }

-- the line that is kept of a text
abbrev pub task_in : List ℕ → Kept → Task
task_in text k = record {
  line = k.line;
  here = k.here;
  text = span k.first (k.first + k.count) text;
  operation = k.operation;
}

abbrev pub tasks_of : Works → List Task
tasks_of ws = map (task_in ws.text.now) ws.kept.items

abbrev pub plan_of : Draft → Plan
plan_of d = record {
  here = d.here;
  labels = value_in d.labels;
  storage = d.storage.items;
  taken = d.taken.items;
  begins = d.begins.items;
  ended = d.ended;
  cpus = d.cpus;
  tasks = tasks_of d.works;
}

-- ---- the parts of a line

-- `tokens_of` knows no want of memory.
abbrev pub kind_of : TextFault → Kind
kind_of texts.LineTooLong = LineTooLong
kind_of texts.BadToken = BadToken
kind_of texts.BadNumber = BadNumber
kind_of texts.Memory = BadToken

abbrev pub by_kind : Result (List Token) TextFault → Result (List Token) Kind
by_kind (Ok ts) = Ok ts
by_kind (Err e) = Err (kind_of e)

abbrev pub is_label : Token → Bool
is_label t = t.first == 0

-- a label begins in column 1
abbrev pub label_in : List ℕ → List Token → List ℕ
label_in line [] = []
label_in line (t ∷ ts) = if is_label t then span t.first t.end line else []

abbrev pub first_token : List Token → Option Token
first_token [] = None
first_token (t ∷ ts) = Some t

-- the operation, if the line says something
abbrev pub operation_in : List Token → Option Token
operation_in [] = None
operation_in (t ∷ ts) = if is_label t then first_token ts else Some t

abbrev pub heads_in : List Token → ℕ
heads_in [] = 0
heads_in (t ∷ ts) = if is_label t then 2 else 1

-- the tokens of the operands
abbrev pub operands_in : List Token → List Token
operands_in ts = drop (heads_in ts) ts

-- the operands as they stand behind the end of the operation
abbrev pub field_behind : ℕ → List ℕ → List ℕ
field_behind end line = span (past is_blank end line) (past is_inked (past is_blank end line) line) line

-- ---- values and their ranges

abbrev pub is_below : ℕ → ℤ → Bool
is_below n (pos v) = nat_lt v n
is_below n (negsuc v) = false

-- from -2 ^ 63 to 2 ^ 64 - 1
abbrev pub is_doubleword : ℤ → Bool
is_doubleword v = is_within (bounds (2 ^ 63) (2 ^ 64)) v

abbrev pub to_nat : ℤ → ℕ
to_nat (pos n) = n
to_nat (negsuc n) = 0

-- ---- what lines do

abbrev pub with_label : Table → List ℕ → ℤ → Table
with_label labels name v = λ q. if bytes_eq q name then Some v else labels q

abbrev pub table_with : List ℕ → ℤ → Table → Table
table_with [] v labels = labels
table_with (b ∷ bs) v labels = with_label labels (b ∷ bs) v

-- the label, where there is one, has the value
abbrev pub labelled : List ℕ → ℤ → Plan → Plan
labelled label v p = record p { labels = table_with label v p.labels }

-- all bytes are accessible: from 8,192 to the end of storage
abbrev pub has_room : ℕ → ℕ → Bool
has_room n here = not (nat_lt 0 n) || (nat_le 8192 here && nat_le (here + n) 1048576)

abbrev pub is_taken : ℕ → ℕ → List Bool → Bool
is_taken from to taken = list_any (λ b. b) (cut from to taken)

-- so many bytes are placed at the location, which goes on behind them
unfoldable pub placed : ℕ → Plan → Result Plan Kind
placed n p =
    if not (has_room n p.here) then Err OutOfRange
    else (if is_taken p.here (p.here + n) p.taken then Err Overlap
    else Ok (record p { here = p.here + n; taken = write_at p.here (copies n true) p.taken }))

abbrev pub tasked : ℕ → ℕ → List ℕ → Operation → Plan → Plan
tasked n here line op p = record p {
  tasks = p.tasks ++ record
      { line = n; here = here; text = line; operation = op } ∷ [];
}

abbrev pub value_on : List ℕ → List Token → Plan → Result ℤ Kind
value_on line ts p = operands_on BadDirective line p.labels p.here ts >>= one_in

unfoldable pub org_line : List ℕ → List Token → Plan → Result Plan Kind
org_line line ts p = value_on line ts p >>= λ v. if is_below 1048577 v then Ok
    (record p { here = to_nat v }) else Err OutOfRange

unfoldable pub equ_line : List ℕ → List ℕ → List Token → Plan → Result Plan Kind
equ_line label line ts p = value_on line ts p >>= λ v. if is_doubleword v then Ok
    (labelled label v p) else Err OutOfRange

unfoldable pub ds_line : List ℕ → List ℕ → List Token → Plan → Result Plan Kind
ds_line label line ts p =
    value_on line ts p >>= λ v. if is_below 1048577 v then placed (to_nat v)
    (labelled label (pos p.here) p) else Err OutOfRange

-- bytes are placed and written
unfoldable pub written : List ℕ → Plan → Result Plan Kind
written bytes p = placed (length bytes) p >>= λ q. Ok (record q { storage = write_at p.here bytes q.storage })

unfoldable pub dc_line : List ℕ → List ℕ → Plan → Result Plan Kind
dc_line label field p = data_of field >>= λ bytes. written bytes (labelled label (pos p.here) p)

-- an instruction's bytes are placed on an even address
unfoldable pub started : ℕ → Plan → Result Plan Kind
started n p =
    if p.here % 2 == 1 then Err OutOfRange
    else (placed n p >>= λ q. Ok (record q { begins = slice_set q.begins p.here true }))

unfoldable pub instruction_line : ℕ → List ℕ → List ℕ → ℕ → Option ℕ → Plan → Result Plan Kind
instruction_line n label line row mask p =
    started (size_of_row row) (labelled label (pos p.here) p) >>= λ q. Ok
    (tasked n p.here line (Instruction row mask) q)

unfoldable pub cpu_line : ℕ → List ℕ → Plan → Result Plan Kind
cpu_line n line p = if nat_lt p.cpus 16 then Ok (tasked n p.here line Cpu (record p { cpus = p.cpus + 1 }))
    else Err OutOfRange

abbrev pub is_nil : {X : Type 0} → List X → Bool
is_nil [] = true
is_nil (x ∷ xs) = false

unfoldable pub end_line : List Token → Plan → Result Plan Kind
end_line ts p = if is_nil ts then Ok (record p { ended = true }) else Err BadDirective

-- what a line of this operation does; `end` is the place behind the operation, and the tokens are those of
-- the operands
unfoldable pub operation_line : Operation → ℕ → List ℕ → List ℕ → ℕ → List Token → Plan → Result Plan Kind
operation_line (Instruction row mask) n label line end ts p = instruction_line n label line row mask p
operation_line Org n label line end ts p = org_line line ts p
operation_line Equ n label line end ts p = equ_line label line ts p
operation_line Ds n label line end ts p = ds_line label line ts p
operation_line Dc n label line end ts p = dc_line label (field_behind end line) p
operation_line Cpu n label line end ts p = cpu_line n line p
operation_line Reg n label line end ts p = Ok (tasked n p.here line Reg p)
operation_line Show n label line end ts p = Ok (tasked n p.here line Show p)
operation_line Tdb n label line end ts p = Ok (tasked n p.here line Tdb p)
operation_line Sched n label line end ts p = Ok (tasked n p.here line Sched p)
operation_line Parm n label line end ts p = Ok (tasked n p.here line Parm p)
operation_line Prefix n label line end ts p = Ok (tasked n p.here line Prefix p)
operation_line End n label line end ts p = end_line ts p

-- EQU has a label; instructions, DS and DC may have one, and no other directive.
abbrev pub is_bad_label : Operation → List ℕ → Bool
is_bad_label Equ label = is_nil label
is_bad_label (Instruction row mask) label = false
is_bad_label Ds label = false
is_bad_label Dc label = false
is_bad_label _ label = not (is_nil label)

abbrev pub is_defined : List ℕ → Table → Bool
is_defined [] labels = false
is_defined (b ∷ bs) labels = is_some (labels (b ∷ bs))

abbrev pub known_line : Operation → ℕ → List ℕ → List ℕ → ℕ → List Token → Plan → Result Plan Kind
known_line op n label line end ts p =
    if is_bad_label op label then Err BadDirective
    else (if is_defined label p.labels then Err DoubleLabel else operation_line op n label line end ts p)

abbrev pub named_line : Option Operation → ℕ → List ℕ → List ℕ → ℕ → List Token → Plan → Result Plan Kind
named_line None n label line end ts p = Err UnknownMnemonic
named_line (Some op) n label line end ts p = known_line op n label line end ts p

-- a line that says something: nothing may follow END
abbrev pub said_line : ℕ → List ℕ → List Token → Option Token → Plan → Result Plan Kind
said_line n line ts None p = Ok p
said_line n line ts (Some o) p =
    if p.ended then Err BadDirective
    else named_line (operation_named (span o.first o.end line)) n (label_in line ts) line o.end
    (operands_in ts) p

-- What a line leaves, or the first of its tests that fails.
unfoldable pub line_gives : ℕ → List ℕ → Plan → Result Plan Kind
line_gives n line p = by_kind (tokens_of line) >>= λ ts. said_line n line ts (operation_in ts) p
