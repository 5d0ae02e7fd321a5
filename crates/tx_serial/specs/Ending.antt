-- How an attempt ends that does not commit.
use Rattle.std.specs.Prelude.{ℕ, Bool, true, false, ◌&&◌, ◌||◌, not, nat_eq, List, [], ◌∷◌, Option, Some}
use Rattle.std.specs.Prelude.{None}
use Rattle.z_instr.specs.declared.instr.Instr.{Instr}
use Rattle.z_instr.specs.Facts.{agree}
use Rattle.z_effect.specs.One.{length_of}
use Rattle.z_effect.specs.After.{exception}
use Rattle.z_effect.specs.Outcome.{Outcome, Did, Divides, Aborts}
use Rattle.z_effect.specs.Outcome as outcome
use Rattle.tx_control.specs.Nesting.{is_constrained}
use Rattle.tx_control.specs.declared.begins.Begin.{Begin}
use Rattle.tx_control.specs.Codes.{fixed_point_overflow_code, fixed_point_divide_code}
use Rattle.tx_control.specs.declared.exceptions.Exception.{Exception}
use Rattle.tx_control.specs.declared.causes.Why.{Why}
use Rattle.tx_control.specs.declared.causes.Why.TheVariants.{External, Program, FetchConflict}
use Rattle.tx_control.specs.declared.causes.Why.TheVariants.{StoreConflict, FetchOverflow, StoreOverflow}
use Rattle.tx_control.specs.declared.causes.Why.TheVariants.{Restricted, Filtered, Depth, Starved, Tabort}
use Rattle.tx_constraint.specs.Constraints.{Step}
use Rattle.tx_serial.specs.Attempt.{Run, Mark, Open, Committed, Overflowed, Missing, footprint, last_step}
use Rattle.tx_serial.specs.Fate.{Fate, Goes, Ends, Stops, fate, cause_in}
use Rattle.tx_serial.specs.Run.{outcome_of}

-- ---- by itself

-- the overflow of the instruction that has completed
abbrev pub overflow_cause : List Begin → Option Step → Option Why
overflow_cause nest None = None
overflow_cause nest (Some s) =
    Some (cause_in nest (exception fixed_point_overflow_code (length_of s.instruction)))

-- a division that does not fit, or TABORT
abbrev pub outcome_cause : List Begin → Instr → Outcome → Option Why
outcome_cause nest i (Did c bytes) = None
outcome_cause nest i (outcome.Overflowed c bytes) = None
outcome_cause nest i Divides = Some (cause_in nest (exception fixed_point_divide_code (length_of i)))
outcome_cause nest i (Aborts code) = Some (Tabort code)

abbrev pub fate_cause : Run → Fate → Option Why
fate_cause p (Goes i ranges) = outcome_cause p.nest i (outcome_of i ranges p)
fate_cause p (Ends why) = Some why
fate_cause p (Stops e) = None

abbrev pub ending_of : Mark → List ℕ → Run → Option Why
ending_of Open text p = fate_cause p (fate text p)
ending_of Committed text p = None
ending_of Overflowed text p = overflow_cause p.nest (last_step p.steps)
ending_of Missing text p = None

-- the cause by which an attempt ends by itself after a run, where there is one
unfoldable pub ending : List ℕ → Run → Option Why
ending text p = ending_of p.mark text p

-- ---- from outside

abbrev pub is_open : Mark → Bool
is_open Open = true
is_open Committed = false
is_open Overflowed = false
is_open Missing = false

-- the next instruction asks for some line
abbrev pub has_operands : Fate → Bool
has_operands (Goes i []) = false
has_operands (Goes i (r ∷ rs)) = true
has_operands (Ends why) = false
has_operands (Stops e) = false

-- an interruption at any time; a conflict on a line that the run has touched, a fetch conflict only where
-- it is not stored; and for a constrained transaction too many rejected requests for lines
abbrev pub comes_from_outside : List ℕ → Run → Why → Bool
comes_from_outside text p External = true
comes_from_outside text p (StoreConflict line) = (footprint p).stored line
comes_from_outside text p (FetchConflict line) = (footprint p).fetched line && not ((footprint p).stored line)
comes_from_outside text p Starved = is_constrained p.nest && has_operands (fate text p)
comes_from_outside text p _ = false

-- ---- either way

abbrev pub is_same_exception : Exception → Exception → Bool
is_same_exception d e = nat_eq d.code e.code && (agree d.fetch e.fetch && nat_eq d.length e.length)

abbrev pub is_same_cause : Why → Why → Bool
is_same_cause External External = true
is_same_cause (Program d) (Program e) = is_same_exception d e
is_same_cause (FetchConflict k) (FetchConflict l) = nat_eq k l
is_same_cause (StoreConflict k) (StoreConflict l) = nat_eq k l
is_same_cause FetchOverflow FetchOverflow = true
is_same_cause StoreOverflow StoreOverflow = true
is_same_cause Restricted Restricted = true
is_same_cause (Filtered d) (Filtered e) = is_same_exception d e
is_same_cause Depth Depth = true
is_same_cause Starved Starved = true
is_same_cause (Tabort c) (Tabort d) = nat_eq c d
is_same_cause _ _ = false

abbrev pub is_cause : Option Why → Why → Bool
is_cause None why = false
is_cause (Some cause) why = is_same_cause cause why

-- the cause is one by which the attempt may end after the run
unfoldable pub fits : List ℕ → Run → Why → Bool
fits text p why = is_cause (ending text p) why || (is_open p.mark && comes_from_outside text p why)
