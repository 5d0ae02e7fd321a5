-- The causes that an instruction's tests find are small, and so is the cause of an instruction that does not go.
use Rattle.std.proofs.Common.{ℕ, ◌<◌, Bool, true, false, List, [], ◌∷◌, Option, Some, None, lit<, length, arith}
use Rattle.std.specs.Prelude.{◌&&◌, nat_le, if◌then◌else◌, Result, Ok, Err}
use Rattle.z_instr.specs.declared.instr.Instr.{Instr}
use Rattle.z_instr.specs.Table.{entry_at}
use Rattle.z_instr.specs.Access.{accessible_pages, text_pages}
use Rattle.z_instr.specs.Roles.{begins}
use Rattle.z_instr.proofs.SmallCodes.{SmallCode, unspecified_code, inaccessible_code, fetch_code}
use Rattle.z_touch.specs.Refusals.{at_fetch}
use Rattle.z_regs.specs.Absolute.{absolute_ranges}
use Rattle.tx_control.specs.Filtering.{class, filters}
use Rattle.tx_control.specs.Nesting.{effective_pifc, is_constrained}
use Rattle.tx_control.specs.declared.begins.Begin as open_begin
use Rattle.tx_control.specs.declared.causes.Why.{Why}
use Rattle.tx_control.specs.declared.causes.Why.TheVariants.{Program, Filtered, Restricted, Depth}
use Rattle.tx_control.specs.declared.causes.Why.TheVariants.{FetchConflict, StoreConflict, Tabort}
use Rattle.tx_control.specs.declared.exceptions.Exception.{Exception}
use Rattle.tx_constraint.specs.Constraints.{Attempt, with_step, text_breach, operand_breach}
use Rattle.tx_footprint.specs.declared.footprint.Overflow.{Overflow}
use Rattle.tx_footprint.specs.declared.footprint.Overflow.TheVariants.{Fetch, Store}
use Rattle.tx_footprint.specs.Touched.{Sets, touching, fit_of}
use Rattle.tx_serial.specs.Attempt.{Run, attempt_of, footprint}
use Rattle.tx_serial.specs.Fate.{Fate, Goes, Ends, Stops, Refusal, Excepts, Because, cause_in, fate_after}
use Rattle.tx_serial.specs.Fate.{excepted, aborts_where, first_refusal, broken_where, operands, step_of, tests}
use Rattle.tx_serial.specs.Fate.{overflow_of, overflow_in, is_restricted, fate, fate_by, fate_by_tests}
use Rattle.tx_serial.specs.Fate.{fetch_refusal, instruction_at, unreadable, length_at}
use Rattle.tx_serial.specs.Room.{HasRoom}

-- ---- causes

-- a cause that a test can find: none from outside, none of TABORT's, and an exception has a small code
abbrev pub SmallCause : Why → Type 0
SmallCause (Program e) = e.code < 256
SmallCause (Filtered e) = e.code < 256
SmallCause (FetchConflict line) = ⊥
SmallCause (StoreConflict line) = ⊥
SmallCause (Tabort code) = ⊥
SmallCause _ = Unit {0}

-- ---- refusals

-- a refusal, where there is one, is by a small cause
abbrev pub SmallRefusal : Option Refusal → Type 0
SmallRefusal None = Unit {0}
SmallRefusal (Some (Excepts e)) = e.code < 256
SmallRefusal (Some (Because why)) = SmallCause why

-- what a test finds by a small code
pub excepted_small : (i : Instr) (o : Option ℕ) → SmallCode o → SmallRefusal (excepted i o)
excepted_small i None h = tt
excepted_small i (Some code) h = h

-- a constraint that is broken
broken_small : (b : Bool) (breach : Attempt → Option ℕ) (a : Attempt) (i : Instr)
    → SmallRefusal (broken_where b breach a i)
broken_small false breach a i = tt
broken_small true breach a i = by (breach a)
  where
    by : (o : Option ℕ) → SmallRefusal (broken_where true (λ x. o) a i)
    by None = tt
    by (Some number) = lit< tt

-- an instruction that no transaction may have
pub restricted_small : (b : Bool) → SmallRefusal (aborts_where b Restricted)
restricted_small true = tt
restricted_small false = tt

-- one begin too many
pub depth_small : (b : Bool) → SmallRefusal (aborts_where b Depth)
depth_small true = tt
depth_small false = tt

-- more lines than a transaction may touch
pub overflow_small : (nest : List open_begin.Begin) (sets : Sets) → SmallRefusal (overflow_in nest sets)
overflow_small [] sets = tt
overflow_small (outermost ∷ inner) sets = by (fit_of sets)
  where
    by : (r : Result (Unit {0}) Overflow) → SmallRefusal (overflow_of r)
    by (Ok u) = tt
    by (Err Fetch) = tt
    by (Err Store) = tt

-- several refusals, each of them small
abbrev pub AreSmall : List (Option Refusal) → Type 0
AreSmall [] = Unit {0}
AreSmall (o ∷ rest) = SmallRefusal o × AreSmall rest

-- the first of them is small
pub first_small : (found : List (Option Refusal)) → AreSmall found → SmallRefusal (first_refusal found)
first_small [] h = tt
first_small (None ∷ rest) h = first_small rest h.1
first_small (Some refusal ∷ rest) h = h.0

-- those that the tests of an instruction find
tests_small : (text : List ℕ) (p : Run) (i : Instr) → AreSmall (tests text p i)
tests_small text p i =
    let c = p.cpu in
    let e = entry_at i.op.number in
    let longer = with_step (attempt_of p.steps) (step_of i (operands i c) c) in (
      broken_small (is_constrained p.nest) text_breach longer i,
      (
        restricted_small (is_restricted p.nest e),
        (
          excepted_small i _ (unspecified_code e.demand e.operands i c.general (length p.nest)),
          (
            depth_small (begins e && nat_le 16 (length p.nest)),
            (
              excepted_small i _ (inaccessible_code e i c.general c.condition (length p.nest)
                  (accessible_pages c.prefix) (text_pages c.prefix text)),
              (
                broken_small (is_constrained p.nest) operand_breach longer i,
                (
                  overflow_small p.nest (touching (footprint p) (absolute_ranges c.prefix (operands i c))),
                  tt,
                ),
              ),
            ),
          ),
        ),
      ),
    )

-- ---- the cause by which an attempt ends

-- a transaction aborts by an exception with a small code
pub cause_small : (nest : List open_begin.Begin) (e : Exception) → e.code < 256 → SmallCause (cause_in nest e)
unfolding cause_in
cause_small nest e h = by (filters (effective_pifc nest) (class e.code e.fetch))
  where
    by : (b : Bool) → SmallCause (if b then Filtered e else Program e)
    by true = h
    by false = h

-- what comes of an instruction that does not go
abbrev pub SmallEnd : Fate → Type 0
SmallEnd (Goes i ranges) = Unit {0}
SmallEnd (Ends why) = SmallCause why
SmallEnd (Stops e) = Unit {0}

-- what is refused ends an attempt by a small cause
pub refusal_small : (nest : List open_begin.Begin) (r : Refusal) → SmallRefusal (Some r)
    → SmallEnd (fate_after nest r)
refusal_small [] (Excepts e) h = tt
refusal_small (outermost ∷ inner) (Excepts e) h = cause_small (outermost ∷ inner) e h
refusal_small [] (Because why) h = h
refusal_small (outermost ∷ inner) (Because why) h = h

-- so does an instruction with its tests
tried_small : (p : Run) (i : Instr) (o : Option Refusal) → SmallRefusal o → SmallEnd (fate_by_tests p i o)
tried_small p i None h = tt
tried_small p i (Some r) h = refusal_small p.nest r h

-- and what is read as one
reading_small : (text : List ℕ) (p : Run) (o : Option ℕ) (i : Option Instr) → SmallCode o
    → SmallEnd (fate_by text p o i)
reading_small text p (Some code) i h = refusal_small p.nest (Excepts (at_fetch code)) h
reading_small text p None None h = refusal_small p.nest (Excepts (unreadable p)) (lit< tt)
reading_small text p None (Some i) h =
    tried_small p i (first_refusal (tests text p i)) (first_small (tests text p i) (tests_small text p i))

-- whatever comes next
pub fate_small : (text : List ℕ) (p : Run) → SmallEnd (fate text p)
unfolding fate
fate_small text p =
    reading_small text p (fetch_refusal text p) (instruction_at p)
    (fetch_code (accessible_pages p.cpu.prefix) (text_pages p.cpu.prefix text) p.cpu.address (length_at p))

-- ---- room for one bit more

-- the code of a small cause has room for one bit more
pub small_has_room : (why : Why) → SmallCause why → HasRoom why
small_has_room (Program e) h = omega (arith, h)
small_has_room why h = tt

-- so has that of an exception with a small code
pub excepted_room : (nest : List open_begin.Begin) (e : Exception) → e.code < 256 → HasRoom (cause_in nest e)
excepted_room nest e h = small_has_room (cause_in nest e) (cause_small nest e h)
