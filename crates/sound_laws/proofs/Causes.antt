-- An attempt ends by causes that a machine finds.
use Rattle.std.proofs.Common.{◌≡◌, ℕ, ◌<◌, true, List, Option, Some, None, refl, subst}
use Rattle.std.proofs.Common.{arith, lit<}
use Rattle.std.specs.Prelude.{◌&&◌, not}
use Rattle.std.proofs.lemmas.Bool.{and_parts, or_cases}
use borrow.Enum.Arm.{by_way}
use Rattle.z_regs.specs.Prefix.{is_prefix}
use Rattle.z_regs.specs.declared.ranges.Range.{Range}
use Rattle.z_instr.specs.declared.instr.Instr.{Instr}
use Rattle.z_effect.specs.Outcome.{Outcome, Did, Divides, Aborts}
use Rattle.z_effect.specs.Outcome as outcome
use Rattle.z_effect.specs.After.{exception}
use Rattle.z_effect.specs.One.{length_of}
use Rattle.tx_control.specs.Codes.{fixed_point_divide_code, fixed_point_overflow_code}
use Rattle.tx_control.specs.declared.begins.Begin.{Begin}
use Rattle.tx_control.specs.declared.causes.Why.{Why}
use Rattle.tx_control.specs.declared.causes.Why.TheVariants.{External, Program, FetchConflict, StoreConflict}
use Rattle.tx_control.specs.declared.causes.Why.TheVariants.{FetchOverflow, StoreOverflow, Restricted}
use Rattle.tx_control.specs.declared.causes.Why.TheVariants.{Filtered, Depth, Starved, Tabort}
use Rattle.tx_control.specs.declared.exceptions.Exception.{Exception}
use Rattle.tx_constraint.specs.Constraints.{Step}
use Rattle.tx_journal.specs.Sound.{IsCause}
use Rattle.tx_serial.specs.Attempt.{Run, Mark, Open, Committed, Overflowed, Missing, footprint, last_step}
use Rattle.tx_serial.specs.Ending.{fits, ending, ending_of, is_cause, is_open, comes_from_outside}
use Rattle.tx_serial.specs.Ending.{outcome_cause, overflow_cause, fate_cause}
use Rattle.tx_serial.specs.Fate.{Fate, Goes, Ends, Stops, fate, cause_in}
use Rattle.tx_serial.specs.Flat.{FlatState}
use Rattle.tx_serial.specs.Run.{run, outcome_of}
use Rattle.tx_serial.proofs.SameCauses.{same_cause}
use Rattle.tx_serial.proofs.SmallCauses.{SmallCause, SmallEnd, cause_small, fate_small}
use Rattle.sound_laws.proofs.Tabort.{tabort_code}
use Rattle.sound_laws.proofs.Lines.{stored_below, fetched_below}

-- ---- by itself

-- what a test finds is such a cause
small_is : (why : Why) → SmallCause why → IsCause why
small_is (Program e) h = omega (arith, h)
small_is (Filtered e) h = omega (arith, h)
small_is (FetchConflict line) h = absurd h
small_is (StoreConflict line) h = absurd h
small_is (Tabort code) h = absurd h
small_is External h = tt
small_is FetchOverflow h = tt
small_is StoreOverflow h = tt
small_is Restricted h = tt
small_is Depth h = tt
small_is Starved h = tt

-- so is an exception with a small code
excepted_is : (nest : List Begin) (e : Exception) → e.code < 256 → IsCause (cause_in nest e)
excepted_is nest e h = small_is (cause_in nest e) (cause_small nest e h)

-- a cause, where there is one
abbrev CauseIn : Option Why → Type 0
CauseIn None = Unit {0}
CauseIn (Some why) = IsCause why

-- an instruction that goes ends an attempt by a division or by TABORT
outcome_is : (text : List ℕ) (p : Run) (i : Instr) (ranges : List Range) (o : Outcome)
    → fate text p ≡ Goes i ranges → outcome_of i ranges p ≡ o → CauseIn (outcome_cause p.nest i o)
outcome_is text p i ranges (Did c bytes) goes is = tt
outcome_is text p i ranges (outcome.Overflowed c bytes) goes is = tt
outcome_is text p i ranges Divides goes is =
    excepted_is p.nest (exception fixed_point_divide_code (length_of i)) (lit< tt)
outcome_is text p i ranges (Aborts code) goes is = tabort_code text p i ranges code goes is

-- the next instruction, whether it goes or not
fate_is : (text : List ℕ) (p : Run) (o : Fate) → fate text p ≡ o → SmallEnd o → CauseIn (fate_cause p o)
fate_is text p (Goes i ranges) goes h = outcome_is text p i ranges (outcome_of i ranges p) goes refl
fate_is text p (Ends why) goes h = small_is why h
fate_is text p (Stops e) goes h = tt

-- the overflow of the last instruction
overflow_is : (nest : List Begin) (o : Option Step) → CauseIn (overflow_cause nest o)
overflow_is nest None = tt
overflow_is nest (Some s) =
    excepted_is nest (exception fixed_point_overflow_code (length_of s.instruction)) (lit< tt)

-- by the mark of the run
ending_is : (m : Mark) (text : List ℕ) (p : Run) → CauseIn (ending_of m text p)
ending_is Open text p = fate_is text p (fate text p) refl (fate_small text p)
ending_is Committed text p = tt
ending_is Overflowed text p = overflow_is p.nest (last_step p.steps)
ending_is Missing text p = tt

-- whatever an attempt ends by itself with is such a cause
own_is : (text : List ℕ) (p : Run) → CauseIn (ending text p)
unfolding ending
own_is text p = ending_is p.mark text p

-- ---- from outside

-- and so is whatever comes from outside
outside_is : (text : List ℕ) (f : FlatState) (i n : ℕ) (why : Why) → is_prefix (f.cpus i).prefix ≡ true
    → comes_from_outside text (run f i n) why ≡ true → IsCause why
outside_is text f i n External ok h = tt
outside_is text f i n (StoreConflict line) ok h = stored_below f i n line ok h
outside_is text f i n (FetchConflict line) ok h =
    let p = run f i n in
    fetched_below f i n line ok (and_parts ((footprint p).fetched line) (not ((footprint p).stored line)) h).0
outside_is text f i n Starved ok h = tt
outside_is text f i n (Program e) ok h = absurd cc
outside_is text f i n FetchOverflow ok h = tt
outside_is text f i n StoreOverflow ok h = tt
outside_is text f i n Restricted ok h = tt
outside_is text f i n (Filtered e) ok h = absurd cc
outside_is text f i n Depth ok h = tt
outside_is text f i n (Tabort code) ok h = absurd cc

-- ---- either way

-- a cause that is the same as such a one
same_is : (o : Option Why) (why : Why) → CauseIn o → is_cause o why ≡ true → IsCause why
same_is None why h is = absurd cc
same_is (Some cause) why h is = subst IsCause (same_cause cause why is) h

-- every cause that fits a run is one that a machine finds
pub fitting_is : (text : List ℕ) (f : FlatState) (i n : ℕ) (why : Why) → is_prefix (f.cpus i).prefix ≡ true
    → fits text (run f i n) why ≡ true → IsCause why
unfolding fits
fitting_is text f i n why ok h =
    let p = run f i n in
    by_way (or_cases (is_cause (ending text p) why) (is_open p.mark && comes_from_outside text p why) h)
    (λ own. same_is (ending text p) why (own_is text p) own)
    (λ other. outside_is text f i n why ok
    (and_parts (is_open p.mark) (comes_from_outside text p why) other).1)
