-- The outcome of the tests that an instruction has to pass before it is executed.
use Rattle.std.specs.Prelude.{ℕ, false, true, not, List, Option, None, Some, Result, Ok, Err}
use Rattle.std.specs.List.{list_any, list_all}
use Rattle.z_instr.specs.declared.instr.Instr.{Instr}
use Rattle.z_instr.specs.declared.operand.Demand.{Demand}
use Rattle.z_instr.specs.Table.{entry_at}
use Rattle.z_instr.specs.Layout.{form_length}
use Rattle.z_instr.specs.Access.{accessible_pages, text_pages}
use Rattle.z_instr.specs.Operands.{Span, unspecified, inaccessible, is_inside, is_stored_into, where_wrong, addressing, protection, operation, tested_spans, is_refused_service}
use Rattle.z_regs.specs.Cpu.{Cpu}
use Rattle.z_regs.specs.declared.ranges.Range.{Range}
use Rattle.tx_control.specs.declared.exceptions.Exception.{Exception}

-- a range as code has it, and as definitions do
abbrev pub range_of : Span → Range
range_of s = record { first = s.first; length = s.length; store = s.store }

abbrev pub span_of : Range → Span
span_of r = record { first = r.first; length = r.length; store = r.store }

-- the exception of an instruction that does not come at its fetch
abbrev pub refused : Instr → ℕ → Exception
refused i code = record { code = code; fetch = false; length = form_length (entry_at i.op.number).form }

-- a value, or the exception where there is one
abbrev pub answer : {A : Type 0} → Option ℕ → Instr → A → Result A Exception
answer None i value = Ok value
answer (Some code) i value = Err (refused i code)

-- addressing where a range is not wholly accessible, protection where a text page would be stored into, and
-- else what
-- comes after
abbrev pub unreachable : List Span → List ℕ → List ℕ → Option ℕ → Option ℕ
unreachable spans accessible text after =
    where_wrong (not (list_all (is_inside accessible) spans)) addressing
    (where_wrong (list_any (is_stored_into text) spans) protection after)

-- addressing, protection, or operation for a service call: the tests on the operands, or on the block that
-- the
-- outermost begin names
abbrev pub denial : Demand → List Span → Instr → List ℕ → ℕ → List ℕ → List ℕ → Option ℕ
denial demand operands i general depth accessible text =
    unreachable (tested_spans demand operands i general depth) accessible text
    (where_wrong (is_refused_service demand i) operation None)

-- the code of the first exception: special operation, specification, addressing, protection, or operation
abbrev pub first_of : Option ℕ → Option ℕ → Option ℕ
first_of None then = then
first_of (Some code) then = Some code

-- on a CPU, with the text pages of storage
abbrev pub refusal : Instr → Cpu → ℕ → List ℕ → Option ℕ
refusal i c depth text =
    first_of (unspecified i c.general depth)
    (inaccessible i c.general c.condition depth (accessible_pages c.prefix) (text_pages c.prefix text))

-- ---- the exception at the fetch of an instruction, which has no length

abbrev pub at_fetch : ℕ → Exception
at_fetch code = record { code = code; fetch = true; length = 0 }

abbrev pub fetch_answer : Option ℕ → Result (Unit {0}) Exception
fetch_answer None = Ok tt
fetch_answer (Some code) = Err (at_fetch code)
