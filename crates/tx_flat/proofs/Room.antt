-- The cause by which an attempt ends of itself has a small code, so an interruption code has room for one bit
-- more.
use Rattle.std.proofs.Common.{ℕ, List, Option, Some, None, lit<}
use Rattle.z_instr.specs.declared.instr.Instr.{Instr}
use Rattle.z_effect.specs.One.{length_of}
use Rattle.z_effect.specs.Outcome.{Outcome, Did, Divides, Aborts}
use Rattle.z_effect.specs.Outcome as outcome
use Rattle.z_effect.specs.After.{exception}
use Rattle.tx_control.specs.declared.begins.Begin as open_begin
use Rattle.tx_control.specs.declared.causes.Why.{Why}
use Rattle.tx_control.specs.Codes.{fixed_point_overflow_code, fixed_point_divide_code}
use Rattle.tx_constraint.specs.Constraints.{Step}
use Rattle.tx_serial.specs.Attempt.{Run, Mark, Open, Committed, Overflowed, Missing, last_step}
use Rattle.tx_serial.specs.Ending.{outcome_cause, overflow_cause, fate_cause, ending, ending_of}
use Rattle.tx_serial.specs.Fate.{Fate, Goes, Ends, Stops, fate}
use Rattle.tx_serial.specs.Room.{HasRoom}
use Rattle.tx_serial.specs.Run.{outcome_of}
use Rattle.tx_serial.proofs.SmallCauses.{SmallEnd, fate_small, small_has_room, excepted_room}

-- a cause, where there is one, has room
abbrev pub RoomIn : Option Why → Type 0
RoomIn None = Unit {0}
RoomIn (Some why) = HasRoom why

-- that of what an instruction did
outcome_room : (nest : List open_begin.Begin) (i : Instr) (o : Outcome) → RoomIn (outcome_cause nest i o)
outcome_room nest i (Did c bytes) = tt
outcome_room nest i (outcome.Overflowed c bytes) = tt
outcome_room nest i Divides = excepted_room nest (exception fixed_point_divide_code (length_of i)) (lit< tt)
outcome_room nest i (Aborts code) = tt

-- that of what comes next
next_room : (p : Run) (o : Fate) → SmallEnd o → RoomIn (fate_cause p o)
next_room p (Goes i ranges) h = outcome_room p.nest i (outcome_of i ranges p)
next_room p (Ends why) h = small_has_room why h
next_room p (Stops e) h = tt

-- that of an overflow
overflow_room : (nest : List open_begin.Begin) (o : Option Step) → RoomIn (overflow_cause nest o)
overflow_room nest None = tt
overflow_room nest (Some s) =
    excepted_room nest (exception fixed_point_overflow_code (length_of s.instruction)) (lit< tt)

-- that by which an attempt ends, by how it stands
ending_room : (m : Mark) (text : List ℕ) (p : Run) → RoomIn (ending_of m text p)
ending_room Open text p = next_room p (fate text p) (fate_small text p)
ending_room Committed text p = tt
ending_room Overflowed text p = overflow_room p.nest (last_step p.steps)
ending_room Missing text p = tt

-- that by which an attempt ends of itself
pub own_room : (text : List ℕ) (p : Run) → RoomIn (ending text p)
unfolding ending
own_room text p = ending_room p.mark text p
