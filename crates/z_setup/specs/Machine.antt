-- The second reading of the lines, when all labels are known: instructions, and what the machine starts from.
use Rattle.std.specs.Prelude.{ℕ, zero, suc, ℤ, pos, negsuc, ◌+◌, Bool, true, false, not, ◌&&◌, List, [], ◌∷◌}
use Rattle.std.specs.Prelude.{◌++◌, length, drop, Option, Some, None, is_none, Result, Ok, Err, nat_lt}
use Rattle.std.specs.Prelude.{nat_le, ◌==◌, if◌then◌else◌, slice_set, codes, sum_by, get_or}
use Rattle.std.specs.List.{list_any}
use Rattle.std.specs.Str.{bytes_eq}
use Rattle.z_text.specs.Line.{span}
use Rattle.z_text.specs.Tokens.{tokens_of}
use Rattle.z_text.specs.declared.token.TextFault.{TextFault}
use Rattle.z_text.specs.declared.token.Token.{Token}
use Rattle.z_text.specs.declared.token.TokenKind.{TokenKind}
use Rattle.z_text.specs.declared.token.TokenKind.TheVariants as tokens
use Rattle.z_instr.specs.Reading.{modulo}
use Rattle.z_instr.specs.Table.{entry_at}
use Rattle.z_regs.specs.Cpu.{Cpu, started}
use Rattle.z_regs.specs.Prefix.{is_prefix}
use Rattle.tx_journal.specs.declared.events.Event.{Event}
use Rattle.tx_journal.specs.declared.image.Show.{Show}
use Rattle.tx_ladder.specs.Parameters.{Parameters}
use Rattle.tx_ladder.specs.Parameters.{reject_choice, firm_choice, late_choice, starve_choice, stop_choice}
use Rattle.tx_ladder.specs.Parameters.{delay_choice}
use Rattle.z_operands.specs.Code.{code_for}
use Rattle.z_reading.specs.Listing.{Task, heads_in, operands_in, operation_in, field_behind, is_below}
use Rattle.z_reading.specs.Listing.{is_doubleword, to_nat}
use Rattle.z_operands.specs.Operations.{size_of_row}
use Rattle.z_fields.specs.Chain.{◌>>=◌}
use Rattle.z_fields.specs.Schedule.{scheduled}
use Rattle.z_reading.specs.Text.{write_at}
use Rattle.z_operands.specs.Values.{Table, operands_on, one_in, two_in, three_in}
use Rattle.z_fields.specs.declared.fault.Kind.{Kind}
use Rattle.z_fields.specs.declared.fault.Kind.TheVariants.{OutOfRange, BadDirective, WrongOperands}
use Rattle.z_operands.specs.declared.operand.Operand.{Operand}
use Rattle.z_operands.specs.declared.operation.Operation.{Operation}
use Rattle.z_operands.specs.declared.operation.Operation.TheVariants as operations
use Rattle.z_setup.specs.declared.parameter.Parameter.{Parameter}
use Rattle.z_setup.specs.declared.showing.Showing.{Showing}
use Rattle.z_setup.specs.declared.showing.Showing.TheVariants.{Bytes, Block}
use Rattle.z_setup.specs.declared.parameter.Parameter.TheVariants.{Reject, Firm, Late, Starve, Stop, Delay}

-- what the lines so far have made of the machine: storage, the CPUs and how many of them have their entries,
-- what is shown, the schedule and whether there is one, and the numbers of the retry ladder
pub record Machine : Type 0 where
  pub storage : List ℕ
  pub cpus : List Cpu
  pub entered : ℕ
  pub shows : List Show
  pub schedule : List Event
  pub scheduled : Bool
  pub parms : Parameters

-- the list with one element changed
abbrev pub change_at : {X : Type 0} → ℕ → (X → X) → List X → List X
change_at i f [] = []
change_at zero f (x ∷ xs) = f x ∷ xs
change_at (suc i) f (x ∷ xs) = x ∷ change_at i f xs

-- ---- CPUs

abbrev pub with_address : ℕ → Cpu → Cpu
with_address address c = record c { address = address }

abbrev pub with_general : ℕ → ℕ → Cpu → Cpu
with_general r v c = record c { general = slice_set c.general r v }

unfoldable pub entry_line : List Operand → Machine → Result Machine Kind
entry_line os m =
    one_in os >>= λ v.
    if is_below 1048576 v then Ok (record m {
      cpus =
          change_at m.entered (with_address (to_nat v)) m.cpus;
      entered = m.entered + 1;
    })
    else Err OutOfRange

abbrev pub is_register_value : ℕ → ℤ × ℤ × ℤ → Bool
is_register_value cpus x = is_below cpus x.0 && (is_below 16 x.1 && is_doubleword x.2)

unfoldable pub register_line : List Operand → Machine → Result Machine Kind
register_line os m =
    three_in os >>= λ x.
    if is_register_value (length m.cpus) x
    then Ok (record m { cpus = change_at (to_nat x.0) (with_general (to_nat x.1) (modulo 64 x.2)) m.cpus })
    else Err OutOfRange

-- ---- what is shown

abbrev pub size_of_show : Show → ℕ
size_of_show s = s.length

-- bytes that are accessible
abbrev pub is_accessible : ℤ → ℤ → Bool
is_accessible (pos e) (pos n) = nat_lt 0 n && (nat_le 8192 e && nat_le (e + n) 1048576)
is_accessible _ _ = false

-- at most 64 ranges and 65,536 bytes are shown
abbrev pub has_room_for : ℕ → List Show → Bool
has_room_for n shows = nat_lt (length shows) 64 && nat_le (sum_by size_of_show shows + n) 65536

abbrev pub show : ℕ → ℕ → Bool → Show
show first length fields = record { first = first; length = length; fields = fields }

-- a block is shown with its fields
abbrev pub has_fields : Showing → Bool
has_fields Bytes = false
has_fields Block = true

unfoldable pub shown : ℤ → ℤ → Bool → Machine → Result Machine Kind
shown e n fields m =
    if is_accessible e n && has_room_for (to_nat n) m.shows
    then Ok (record m { shows = m.shows ++ show (to_nat e) (to_nat n) fields ∷ [] })
    else Err OutOfRange

unfoldable pub show_line : List Operand → Machine → Result Machine Kind
show_line os m = two_in os >>= λ x. shown x.0 x.1 false m

unfoldable pub block_line : List Operand → Machine → Result Machine Kind
block_line os m = one_in os >>= λ e. shown e (pos 256) true m

-- ---- the numbers of the retry ladder

unfoldable pub parameter_named : List ℕ → Option Parameter
parameter_named name =
    if bytes_eq name (codes "REJECT") then Some Reject
    else (if bytes_eq name (codes "FIRM") then Some Firm
    else (if bytes_eq name (codes "LATE") then Some Late
    else (if bytes_eq name (codes "STARVE") then Some Starve
    else (if bytes_eq name (codes "STOP") then Some Stop
    else (if bytes_eq name (codes "DELAY") then Some Delay else None)))))

abbrev pub is_between : ℕ → ℕ → ℤ → Bool
is_between least most (pos n) = nat_le least n && nat_le n most
is_between least most (negsuc n) = false

abbrev pub is_choice : Parameter → ℤ → Bool
is_choice Reject v = is_between reject_choice.least reject_choice.most v
is_choice Firm v = is_between firm_choice.least firm_choice.most v
is_choice Late v = is_between late_choice.least late_choice.most v
is_choice Starve v = is_between starve_choice.least starve_choice.most v
is_choice Stop v = is_between stop_choice.least stop_choice.most v
is_choice Delay v = is_between delay_choice.least delay_choice.most v

abbrev pub with_parameter : Parameter → ℕ → Parameters → Parameters
with_parameter Reject n p = record p { reject = n }
with_parameter Firm n p = record p { firm = n }
with_parameter Late n p = record p { late = n }
with_parameter Starve n p = record p { starve = n }
with_parameter Stop n p = record p { stop = n }
with_parameter Delay n p = record p { delay = n }

abbrev pub is_comma : TokenKind → Bool
is_comma tokens.Comma = true
is_comma _ = false

-- the name that stands first, with a comma behind it
abbrev pub parameter_in : List ℕ → List Token → Option Parameter
parameter_in line (n ∷ c ∷ ts) = if is_comma c.kind then parameter_named (span n.first n.end line) else None
parameter_in line _ = None

unfoldable pub parameter_line : Parameter → List Operand → Machine → Result Machine Kind
parameter_line p os m =
    one_in os >>= λ v. if is_choice p v then Ok (record m { parms = with_parameter p (to_nat v) m.parms })
    else Err OutOfRange

-- ---- prefixes

-- a multiple of 8,192 from 8,192 to 1,040,384
abbrev pub is_area : ℤ → Bool
is_area (pos n) = is_prefix (Some n)
is_area (negsuc n) = false

abbrev pub is_same_prefix : ℕ → Option ℕ → Bool
is_same_prefix n None = false
is_same_prefix n (Some p) = p == n

abbrev pub has_prefix : ℕ → Cpu → Bool
has_prefix n c = is_same_prefix n c.prefix

-- the CPU has no prefix yet, and no CPU has this one
abbrev pub is_free : ℕ → ℕ → List Cpu → Bool
is_free cpu n cpus = is_none (get_or cpus cpu (started 0)).prefix && not (list_any (has_prefix n) cpus)

-- the line places an instruction with a byte in the area of two pages from an address on
abbrev pub places_in : ℕ → ℕ → Operation → Bool
places_in area here (operations.Instruction row mask) =
    nat_lt here (area + 8192) && nat_lt area (here + size_of_row row)
places_in area here _ = false

abbrev pub task_places_in : ℕ → Task → Bool
task_places_in area t = places_in area t.here t.operation

abbrev pub is_prefix_for : List Task → List Cpu → ℤ × ℤ → Bool
is_prefix_for tasks cpus x =
    is_below (length cpus) x.0
    && (is_area x.1 && (is_free (to_nat x.0) (to_nat x.1) cpus && not
    (list_any (task_places_in (to_nat x.1)) tasks)))

abbrev pub with_prefix : ℕ → Cpu → Cpu
with_prefix n c = record c { prefix = Some n }

unfoldable pub prefix_line : List Task → List Operand → Machine → Result Machine Kind
prefix_line tasks os m =
    two_in os >>= λ x.
    if is_prefix_for tasks m.cpus x
    then Ok (record m { cpus = change_at (to_nat x.0) (with_prefix (to_nat x.1)) m.cpus })
    else Err OutOfRange

-- ---- the schedule, and instructions

unfoldable pub schedule_line : List ℕ → Machine → Result Machine Kind
schedule_line field m =
    scheduled (length m.cpus) field m.schedule >>= λ es. Ok (record m { schedule = es; scheduled = true })

unfoldable pub code_line : ℕ → Option ℕ → ℕ → List Operand → Machine → Result Machine Kind
code_line row mask here os m =
    code_for (entry_at row) mask here os >>= λ bytes. Ok
    (record m { storage = write_at here bytes m.storage })

-- ---- a line

-- What holds for all lines: the labels, and the lines that are read again.
pub record Known : Type 0 where
  pub labels : Table
  pub tasks : List Task

abbrev pub tokens_or : Result (List Token) TextFault → List Token
tokens_or (Ok ts) = ts
tokens_or (Err e) = []

unfoldable pub tokens_in : List ℕ → List Token
tokens_in line = tokens_or (tokens_of line)

-- the operands of a line, from one of them on
abbrev pub operands_for : Kind → Known → Task → List Token → Result (List Operand) Kind
operands_for malformed k t ts = operands_on malformed t.text k.labels t.here ts

abbrev pub named_parameter : Option Parameter → Known → Task → List Token → Machine → Result Machine Kind
named_parameter None k t ts m = Err BadDirective
named_parameter (Some p) k t ts m = operands_for BadDirective k t ts >>= λ os. parameter_line p os m

abbrev pub end_of : Option Token → ℕ
end_of None = 0
end_of (Some t) = t.end

-- the directives whose operands are all expressions
unfoldable pub directive_line : Operation → Known → List Operand → Machine → Result Machine Kind
directive_line operations.Cpu k os m = entry_line os m
directive_line operations.Reg k os m = register_line os m
directive_line operations.Show k os m = show_line os m
directive_line operations.Tdb k os m = block_line os m
directive_line operations.Prefix k os m = prefix_line k.tasks os m
directive_line _ k os m = Ok m

unfoldable pub read_again : Operation → Known → Task → List Token → Machine → Result Machine Kind
read_again (operations.Instruction row mask) k t ts m =
    operands_for WrongOperands k t (operands_in ts) >>= λ os. code_line row mask t.here os m
read_again operations.Sched k t ts m = schedule_line (field_behind (end_of (operation_in ts)) t.text) m
read_again operations.Parm k t ts m = named_parameter (parameter_in t.text (operands_in ts)) k t
    (drop (heads_in ts + 2) ts) m
read_again op k t ts m = operands_for BadDirective k t (operands_in ts) >>= λ os. directive_line op k os m

-- What the second reading of a line leaves, or the first of its tests that fails.
unfoldable pub task_gives : Known → Task → Machine → Result Machine Kind
task_gives k t m = read_again t.operation k t (tokens_in t.text) m
