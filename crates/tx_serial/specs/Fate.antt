-- Whether the next instruction of a run goes, by tests in a fixed order: the first that fails decides.
use Rattle.std.specs.Prelude.{◌≡◌, ℕ, Bool, true, false, ◌&&◌, ◌||◌, not, nat_le, if◌then◌else◌, length, List}
use Rattle.std.specs.Prelude.{[], ◌∷◌, map, Option, Some, None, Result, Ok, Err}
use Rattle.z_regs.specs.Cpu.{Cpu}
use Rattle.z_regs.specs.Prefix.{absolute_of}
use Rattle.z_regs.specs.Absolute.{absolute_ranges}
use Rattle.z_regs.specs.declared.ranges.Range.{Range}
use Rattle.z_instr.specs.declared.instr.Instr.{Instr}
use Rattle.z_instr.specs.Table.{Entry, entry_at}
use Rattle.z_instr.specs.Layout.{length_by}
use Rattle.z_instr.specs.Computing.{reading_of}
use Rattle.z_instr.specs.Access.{accessible_pages, text_pages, unfetched}
use Rattle.z_instr.specs.Roles.{sets_access_register, begins}
use Rattle.z_instr.specs.Operands.{spans, unspecified, inaccessible, operation}
use Rattle.z_touch.specs.Refusals.{range_of, refused, at_fetch}
use Rattle.tx_control.specs.Filtering.{class, filters}
use Rattle.tx_control.specs.Nesting.{effective_a, effective_pifc, is_constrained}
use Rattle.tx_control.specs.declared.begins.Begin.{Begin}
use Rattle.tx_control.specs.Codes.{transaction_constraint_code}
use Rattle.tx_control.specs.declared.exceptions.Exception.{Exception}
use Rattle.tx_control.specs.declared.causes.Why.{Why}
use Rattle.tx_control.specs.declared.causes.Why.TheVariants.{Program, Filtered, Restricted, Depth}
use Rattle.tx_control.specs.declared.causes.Why.TheVariants.{FetchOverflow, StoreOverflow}
use Rattle.tx_constraint.specs.Constraints.{Step, Attempt, with_step, text_breach, operand_breach}
use Rattle.tx_footprint.specs.Touched.{Sets, touching, fit_of}
use Rattle.tx_footprint.specs.declared.footprint.Overflow.{Overflow}
use Rattle.tx_footprint.specs.declared.footprint.Overflow.TheVariants.{Fetch, Store}
use Rattle.tx_serial.specs.Flat.{bytes_seen}
use Rattle.tx_serial.specs.Attempt.{Run, footprint, attempt_of}

-- the instruction goes, with its operands by real addresses; it ends the transaction; or it stops the
-- program, outside transactions
pub data Fate : Type 0 where
  Goes : Instr → List Range → Fate
  Ends : Why → Fate
  Stops : Exception → Fate

-- ---- what a test finds wrong

-- a program exception, or a cause of its own by which a transaction aborts
pub data Refusal : Type 0 where
  Excepts : Exception → Refusal
  Because : Why → Refusal

-- a transaction aborts by an exception as one that is filtered, or as one that interrupts the program
unfoldable pub cause_in : List Begin → Exception → Why
cause_in nest e = if filters (effective_pifc nest) (class e.code e.fetch) then Filtered e else Program e

-- what a refusal means under the open begins
abbrev pub fate_after : List Begin → Refusal → Fate
fate_after [] (Excepts e) = Stops e
fate_after (outermost ∷ inner) (Excepts e) = Ends (cause_in (outermost ∷ inner) e)
fate_after nest (Because why) = Ends why

-- an exception of the instruction by its code, where there is one
abbrev pub excepted : Instr → Option ℕ → Option Refusal
excepted i None = None
excepted i (Some code) = Some (Excepts (refused i code))

abbrev pub aborts_where : Bool → Why → Option Refusal
aborts_where true why = Some (Because why)
aborts_where false why = None

-- the first that a list of tests has found
abbrev pub first_refusal : List (Option Refusal) → Option Refusal
first_refusal [] = None
first_refusal (None ∷ rest) = first_refusal rest
first_refusal (Some refusal ∷ rest) = Some refusal

-- ---- the instruction

-- the number of its bytes, by the first of them
abbrev pub length_at : Run → ℕ
length_at p = length_by (p.copy (absolute_of p.cpu.prefix p.cpu.address))

abbrev pub instruction_at : Run → Option Instr
instruction_at p = reading_of (bytes_seen p.cpu.prefix p.copy p.cpu.address (length_at p))

abbrev pub operands : Instr → Cpu → List Range
operands i c = map range_of (spans i c.general c.condition)

-- as a step of the run
abbrev pub step_of : Instr → List Range → Cpu → Step
step_of i ranges c = record { instruction = i; at = c.address; ranges = ranges }

-- ---- the tests

-- 1: the fetch. An odd address, and then for each byte from the first storage that is not accessible, and
-- storage outside text pages
abbrev pub fetch_refusal : List ℕ → Run → Option ℕ
fetch_refusal text p =
    let prefix = p.cpu.prefix in
    unfetched (accessible_pages prefix) (text_pages prefix text) p.cpu.address (length_at p)

-- the bytes read as no instruction: an operation exception with the length that the first byte gives
abbrev pub unreadable : Run → Exception
unreadable p = record { code = operation; fetch = false; length = length_at p }

-- a constraint that a constrained transaction would break with the instruction
abbrev pub broken_where : Bool → (Attempt → Option ℕ) → Attempt → Instr → Option Refusal
broken_where false breach attempt i = None
broken_where true breach attempt i = broken (breach attempt)
  where
    broken : Option ℕ → Option Refusal
    broken None = None
    broken (Some number) = Some (Excepts (refused i transaction_constraint_code))

abbrev pub broken : (Attempt → Option ℕ) → Run → Instr → Option Refusal
broken breach p i =
    let step = step_of i (operands i p.cpu) p.cpu in
    broken_where (is_constrained p.nest) breach (with_step (attempt_of p.steps) step) i

-- 2: constraints 1 to 3
abbrev pub text_refusal : Run → Instr → Option Refusal
text_refusal p i = broken text_breach p i

-- 3: what every transaction refuses, and a change of access registers that the begins do not allow
abbrev pub is_restricted : List Begin → Entry → Bool
is_restricted [] e = false
is_restricted (outermost ∷ inner) e =
    e.restricted || (sets_access_register e && not (effective_a (outermost ∷ inner)))

abbrev pub restricted_refusal : Run → Instr → Option Refusal
restricted_refusal p i = aborts_where (is_restricted p.nest (entry_at i.op.number)) Restricted

-- 4: special operation, then specification
abbrev pub specified_refusal : Run → Instr → Option Refusal
specified_refusal p i = excepted i (unspecified i p.cpu.general (length p.nest))

-- 5: a begin inside sixteen others
abbrev pub depth_refusal : Run → Instr → Option Refusal
depth_refusal p i = aborts_where (begins (entry_at i.op.number) && nat_le 16 (length p.nest)) Depth

-- 6: addressing for each operand, protection for each stored one, and the number of a service call
abbrev pub operand_refusal : List ℕ → Run → Instr → Option Refusal
operand_refusal text p i =
    let c = p.cpu in
    excepted i (inaccessible i c.general c.condition (length p.nest) (accessible_pages c.prefix)
    (text_pages c.prefix text))

-- 7: constraints 4 to 7
abbrev pub place_refusal : Run → Instr → Option Refusal
place_refusal p i = broken operand_breach p i

-- 8: more lines, or more stored blocks, than a transaction may touch
abbrev pub overflow_of : Result (Unit {0}) Overflow → Option Refusal
overflow_of (Ok u) = None
overflow_of (Err Fetch) = Some (Because FetchOverflow)
overflow_of (Err Store) = Some (Because StoreOverflow)

abbrev pub overflow_in : List Begin → Sets → Option Refusal
overflow_in [] sets = None
overflow_in (outermost ∷ inner) sets = overflow_of (fit_of sets)

abbrev pub overflow_refusal : Run → Instr → Option Refusal
overflow_refusal p i =
    overflow_in p.nest (touching (footprint p) (absolute_ranges p.cpu.prefix (operands i p.cpu)))

-- those behind the fetch, in order
abbrev pub tests : List ℕ → Run → Instr → List (Option Refusal)
tests text p i =
    text_refusal p i
    ∷ restricted_refusal p i
    ∷ specified_refusal p i
    ∷ depth_refusal p i
    ∷ operand_refusal text p i
    ∷ place_refusal p i
    ∷ overflow_refusal p i
    ∷ []

-- ---- the fate

abbrev pub fate_by_tests : Run → Instr → Option Refusal → Fate
fate_by_tests p i None = Goes i (operands i p.cpu)
fate_by_tests p i (Some refusal) = fate_after p.nest refusal

abbrev pub fate_by : List ℕ → Run → Option ℕ → Option Instr → Fate
fate_by text p (Some code) i = fate_after p.nest (Excepts (at_fetch code))
fate_by text p None None = fate_after p.nest (Excepts (unreadable p))
fate_by text p None (Some i) = fate_by_tests p i (first_refusal (tests text p i))

-- of the next instruction of a run, by the text pages of storage
unfoldable pub fate : List ℕ → Run → Fate
fate text p = fate_by text p (fetch_refusal text p) (instruction_at p)

-- an instruction that no test refuses
pub record Passes (text : List ℕ) (p : Run) (i : Instr) (ranges : List Range) : Type 0 where
  pub fetched : fetch_refusal text p ≡ None
  pub reads : instruction_at p ≡ Some i
  pub passed : first_refusal (tests text p i) ≡ None
  pub touches : ranges ≡ operands i p.cpu
