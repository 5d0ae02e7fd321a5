-- What the lines of a text say, each line where it stands: what laws about whole texts speak of.
use Rattle.std.specs.Prelude.{◌≡◌, ◌≢◌, ℕ, ℤ, pos, ◌+◌, ◌<◌, ◌≤◌, List, [], ◌∷◌, ◌++◌, length, Option, Some}
use Rattle.std.specs.Prelude.{None}
use Rattle.std.specs.Prelude.{Result, Ok, Err, drop, slice_index, replicate, Bool, true, false, ◌&&◌, ◌==◌}
use Rattle.std.specs.Prelude.{if◌then◌else◌}
use Rattle.std.specs.List.{Contains, flat_map}
use Rattle.z_text.specs.Line.{span}
use Rattle.z_text.specs.declared.token.Token.{Token}
use Rattle.z_instr.specs.Reading.{modulo}
use Rattle.z_instr.specs.Table.{entry_at}
use Rattle.z_fields.specs.Chain.{◌>>=◌}
use Rattle.z_operands.specs.Code.{code_for}
use Rattle.z_fields.specs.Data.{data_of}
use Rattle.z_operands.specs.Operations.{operation_named}
use Rattle.z_fields.specs.Pieces.{without_end, pieces_by, shortened}
use Rattle.z_fields.specs.Schedule.{run_of, event_of}
use Rattle.z_operands.specs.Values.{Table, operands_on, one_in, two_in, three_in}
use Rattle.z_fields.specs.declared.fault.Kind.{Kind}
use Rattle.z_fields.specs.declared.fault.Kind.TheVariants.{BadDirective, WrongOperands}
use Rattle.z_operands.specs.declared.operation.Operation.{Operation}
use Rattle.z_fields.specs.declared.schedule.Run.{Run}
use Rattle.tx_journal.specs.declared.events.Event.{Event}
use Rattle.tx_journal.specs.declared.image.Show.{Show}
use Rattle.tx_ladder.specs.Parameters.{Parameters}
use Rattle.z_operands.specs.declared.operation.Operation.TheVariants.{Instruction, Equ, Ds, Dc, Cpu, Reg}
use Rattle.z_operands.specs.declared.operation.Operation.TheVariants.{Sched, Parm, Prefix}
use Rattle.z_operands.specs.declared.operation.Operation.TheVariants as operations
use Rattle.z_setup.specs.declared.parameter.Parameter.{Parameter}
use Rattle.z_setup.specs.declared.parameter.Parameter.TheVariants.{Reject, Firm, Late, Starve, Stop, Delay}
use Rattle.z_reading.specs.Listing.{Plan, line_gives, label_in, operands_in, operation_in, field_behind}
use Rattle.z_reading.specs.Listing.{to_nat}
use Rattle.z_setup.specs.Machine.{tokens_in, parameter_in, show}
use Rattle.z_reading.specs.Text.{lines_of, copies}
use Rattle.z_assemble.specs.Whole.{blank}

-- A line that says something: its number, its text, its location, the labels of the lines before it, its own
-- label (empty where it has none), its operation, the place behind that, and the tokens of its operands.
pub record Statement : Type 0 where
  pub number : ℕ
  pub text : List ℕ
  pub here : ℕ
  pub labels : Table
  pub label : List ℕ
  pub operation : Operation
  pub end : ℕ
  pub operands : List Token

abbrev pub statement : ℕ → List ℕ → List Token → Token → Plan → Operation → Statement
statement n line ts o p op = record {
  number = n;
  text = line;
  here = p.here;
  labels = p.labels;
  label = label_in line ts;
  operation = op;
  end = o.end;
  operands = operands_in ts;
}

abbrev pub said_by : Option Operation → ℕ → List ℕ → List Token → Token → Plan → List Statement
said_by None n line ts o p = []
said_by (Some op) n line ts o p = statement n line ts o p op ∷ []

abbrev pub said_with : ℕ → List ℕ → List Token → Option Token → Plan → List Statement
said_with n line ts None p = []
said_with n line ts (Some o) p = said_by (operation_named (span o.first o.end line)) n line ts o p

-- what a line says: nothing, or one statement
unfoldable pub said_on : ℕ → List ℕ → Plan → List Statement
said_on n line p = said_with n line (tokens_in line) (operation_in (tokens_in line)) p

abbrev pub behind : Result Plan Kind → (Plan → List Statement) → List Statement
behind (Ok p) more = more p
behind (Err k) more = []

-- what lines say of which the first has this number, each where the lines before it left the location and the
-- labels
unfoldable pub said_from : ℕ → List (List ℕ) → Plan → List Statement
said_from n [] p = []
said_from n (l ∷ ls) p =
    said_on n (without_end l) p ++ behind (line_gives n (without_end l) p) (said_from (n + 1) ls)

-- what the lines of a text say, in their order
abbrev pub statements_of : List ℕ → List Statement
statements_of text = said_from 1 (lines_of text) blank

-- ---- labels

-- the value of the one operand of a directive, by the labels of the lines before it
abbrev pub value_of : Statement → Result ℤ Kind
value_of s = operands_on BadDirective s.text s.labels s.here s.operands >>= one_in

-- EQU gives its operand; instructions, DS and DC their location
abbrev pub Gives : Operation → Statement → ℤ → Type 0
Gives Equ s v = value_of s ≡ Ok v
Gives (Instruction row mask) s v = v ≡ pos s.here
Gives Ds s v = v ≡ pos s.here
Gives Dc s v = v ≡ pos s.here
Gives _ s v = ⊥

-- the statement gives its label, which is this name, this value
pub record Defines (s : Statement) (name : List ℕ) (value : ℤ) : Type 0 where
  pub label : s.label ≡ name
  pub some : name ≢ []
  pub gives : Gives s.operation s value

-- one of the statements gives the name the value
pub record IsNamed (ss : List Statement) (name : List ℕ) (value : ℤ) : Type 0 where
  pub statement : Statement
  pub among : Contains ss statement
  pub defines : Defines statement name value

-- no name is given a value by both
abbrev pub HaveOtherLabels : Statement → Statement → Type 0
HaveOtherLabels some other =
    (name : List ℕ) (v w : ℤ) → Defines some name v → Defines other name w → ⊥

-- ---- bytes

abbrev pub bytes_with : Operation → Table → Statement → Result (List ℕ) Kind
bytes_with (Instruction row mask) labels s =
    operands_on WrongOperands s.text labels s.here s.operands >>= code_for (entry_at row) mask s.here
bytes_with Dc labels s = data_of (field_behind s.end s.text)
bytes_with Ds labels s = value_of s >>= λ n. Ok (copies (to_nat n) 0)
bytes_with _ labels s = Ok []

-- The bytes that a statement places at its location, by the values of all labels: the code of an instruction,
-- the data of DC, zeros for DS, and none for another directive.
abbrev pub bytes_of : Table → Statement → Result (List ℕ) Kind
bytes_of labels s = bytes_with s.operation labels s

-- the bytes stand there
abbrev pub Stand : List ℕ → ℕ → List ℕ → Type 0
Stand bytes here storage = (i : ℕ) → i < length bytes → slice_index storage (here + i) ≡ slice_index bytes i

-- a statement's bytes, which stand in storage at its location
pub record IsPlaced (labels : Table) (storage : List ℕ) (s : Statement) : Type 0 where
  pub bytes : List ℕ
  pub are : bytes_of labels s ≡ Ok bytes
  pub stand : Stand bytes s.here storage

-- one of the statement's bytes has this address
pub record Covers (labels : Table) (s : Statement) (at : ℕ) : Type 0 where
  pub bytes : List ℕ
  pub are : bytes_of labels s ≡ Ok bytes
  pub low : s.here ≤ at
  pub high : at < s.here + length bytes

abbrev pub AreApart : Table → Statement → Statement → Type 0
AreApart labels some other = (at : ℕ) → Covers labels some at → Covers labels other at → ⊥

-- ---- instructions

abbrev pub IsInstruction : Operation → Type 0
IsInstruction (Instruction row mask) = Unit {0}
IsInstruction _ = ⊥

-- one of the statements is an instruction at this address
pub record IsStarted (ss : List Statement) (at : ℕ) : Type 0 where
  pub statement : Statement
  pub among : Contains ss statement
  pub instruction : IsInstruction statement.operation
  pub here : statement.here ≡ at

-- ---- events

abbrev pub events_of_run : Option Run → List Event
events_of_run (Some r) = replicate r.count (event_of r.external r.cpu)
events_of_run None = []

-- the events of an item, which stands before its comma
abbrev pub events_of_item : List ℕ → List Event
events_of_item item = events_of_run (run_of (shortened item))

-- the events of a field: its items have commas between them
abbrev pub events_of_field : List ℕ → List Event
events_of_field field = flat_map events_of_item (pieces_by 44 (field ++ 44 ∷ []))

abbrev pub events_with : Operation → Statement → List Event
events_with Sched s = events_of_field (field_behind s.end s.text)
events_with _ s = []

-- the events that a statement gives: those of SCHED
abbrev pub events_of : Statement → List Event
events_of s = events_with s.operation s

-- ---- CPUs

abbrev pub value_or_none : Result ℤ Kind → List ℕ
value_or_none (Ok v) = to_nat v ∷ []
value_or_none (Err k) = []

abbrev pub entry_with : Operation → Table → Statement → List ℕ
entry_with Cpu labels s = value_or_none (operands_on BadDirective s.text labels s.here s.operands >>= one_in)
entry_with _ labels s = []

-- the address where a statement has a CPU enter: that of CPU
abbrev pub entry_of : Table → Statement → List ℕ
entry_of labels s = entry_with s.operation labels s

-- the value, where it is for this register of this CPU
abbrev pub value_for : ℕ → ℕ → Result (ℤ × ℤ × ℤ) Kind → List ℕ
value_for cpu r (Ok x) = if (to_nat x.0 == cpu) && (to_nat x.1 == r) then modulo 64 x.2 ∷ [] else []
value_for cpu r (Err k) = []

abbrev pub values_with : Operation → Table → ℕ → ℕ → Statement → List ℕ
values_with Reg labels cpu r s =
    value_for cpu r (operands_on BadDirective s.text labels s.here s.operands >>= three_in)
values_with _ labels cpu r s = []

-- the value that a statement gives to a general register of a CPU: that of REG
abbrev pub values_of : Table → ℕ → ℕ → Statement → List ℕ
values_of labels cpu r s = values_with s.operation labels cpu r s

-- the last of them, or this one where there is none
abbrev pub last_or : ℕ → List ℕ → ℕ
last_or d [] = d
last_or d (x ∷ xs) = last_or x xs

-- ---- what is shown

abbrev pub range_or_none : Result (ℤ × ℤ) Kind → List Show
range_or_none (Ok x) = show (to_nat x.0) (to_nat x.1) false ∷ []
range_or_none (Err k) = []

abbrev pub block_or_none : Result ℤ Kind → List Show
block_or_none (Ok v) = show (to_nat v) 256 true ∷ []
block_or_none (Err k) = []

abbrev pub shows_with : Operation → Table → Statement → List Show
shows_with operations.Show labels s =
    range_or_none (operands_on BadDirective s.text labels s.here s.operands >>= two_in)
shows_with operations.Tdb labels s =
    block_or_none (operands_on BadDirective s.text labels s.here s.operands >>= one_in)
shows_with _ labels s = []

-- what a statement shows: the bytes of SHOW, the block of TDB
abbrev pub shows_of : Table → Statement → List Show
shows_of labels s = shows_with s.operation labels s

-- ---- prefixes

-- the prefix, where it is for this CPU
abbrev pub prefix_for : ℕ → Result (ℤ × ℤ) Kind → List ℕ
prefix_for cpu (Ok x) = if to_nat x.0 == cpu then to_nat x.1 ∷ [] else []
prefix_for cpu (Err k) = []

abbrev pub prefixes_with : Operation → Table → ℕ → Statement → List ℕ
prefixes_with Prefix labels cpu s =
    prefix_for cpu (operands_on BadDirective s.text labels s.here s.operands >>= two_in)
prefixes_with _ labels cpu s = []

-- the prefix that a statement gives to a CPU: that of PREFIX
abbrev pub prefixes_of : Table → ℕ → Statement → List ℕ
prefixes_of labels cpu s = prefixes_with s.operation labels cpu s

-- the number, if there is one
abbrev pub as_list : Option ℕ → List ℕ
as_list (Some n) = n ∷ []
as_list None = []

-- ---- the numbers of the retry ladder

abbrev pub number_in : Parameter → Parameters → ℕ
number_in Reject p = p.reject
number_in Firm p = p.firm
number_in Late p = p.late
number_in Starve p = p.starve
number_in Stop p = p.stop
number_in Delay p = p.delay

abbrev pub is_same : Parameter → Parameter → Bool
is_same Reject Reject = true
is_same Firm Firm = true
is_same Late Late = true
is_same Starve Starve = true
is_same Stop Stop = true
is_same Delay Delay = true
is_same _ _ = false

-- the value, where it is for this number
abbrev pub number_for : Parameter → Option Parameter → Result ℤ Kind → List ℕ
number_for p (Some q) (Ok v) = if is_same q p then to_nat v ∷ [] else []
number_for p _ _ = []

abbrev pub numbers_with : Operation → Table → Parameter → Statement → List ℕ
numbers_with Parm labels p s =
    number_for p (parameter_in s.text s.operands)
    (operands_on BadDirective s.text labels s.here (drop 2 s.operands) >>= one_in)
numbers_with _ labels p s = []

-- the value that a statement gives to a number of the retry ladder: that of PARM, behind the name and a comma
abbrev pub numbers_of : Table → Parameter → Statement → List ℕ
numbers_of labels p s = numbers_with s.operation labels p s
