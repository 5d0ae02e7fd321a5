-- Runs that leave a machine, and that come home.
use Rattle.std.specs.Prelude.{ℕ, true, false, Bool, nat_eq, if◌then◌else◌, ◌++◌, replicate, set, slice_index_or}
use Rattle.std.specs.Prelude.{Option, Some, None}
use Rattle.std.specs.Option.{option_or}
use Rattle.tx_journal.specs.declared.events.Event.TheVariants.{Turn}
use Rattle.tx_home.specs.Keeping.{keeping}
use Rattle.tx_home.specs.Kept.{Kept}
use Rattle.tx_home.specs.Lending.{refusal_of}
use Rattle.tx_home.specs.declared.lending.Refusal.{Refusal}
use Rattle.tx_home.specs.declared.lending.Refusal.TheVariants.{Away}
use Rattle.tx_home.specs.declared.place.Unlike.{Unlike}
use Rattle.tx_meaning.specs.declared.asking.Reject.{Reject}
use Rattle.tx_home.specs.RunLent.{Lent}
use Rattle.tx_machine.specs.Machine.{Seen, setting_of}
use Rattle.tx_machine.specs.declared.lending.Lend.{Lend}
use Rattle.tx_machine.specs.declared.lending.Lend.TheVariants as lend
use Rattle.tx_machine.specs.declared.lending.Home.{Home}
use Rattle.tx_machine.specs.declared.lending.Home.TheVariants as home

-- what is kept behind the recorded events
abbrev pub kept_of : Seen → Kept
kept_of s = keeping (setting_of s) s.events

abbrev pub is_away : Seen → ℕ → Bool
is_away s i = slice_index_or s.away i true

-- ---- a CPU is lent

-- why it is not, where it is not
abbrev pub refusal_in : Lend → Option Refusal
refusal_in (lend.Run r) = None
refusal_in (lend.Refused why) = Some why

-- what holds of the run that is lent
abbrev pub IfLent : Lend → (Lent → Type 0) → Type 0
IfLent (lend.Run r) holds = holds r
IfLent (lend.Refused why) holds = Unit {0}

-- last of all because its run is away
abbrev pub kept_because : Seen → ℕ → Option Refusal
kept_because s i =
    option_or (refusal_of (setting_of s) i (kept_of s)) (if is_away s i then Some Away else None)

-- its run is away then
abbrev pub lent_by : Lend → ℕ → Seen → Seen
lent_by (lend.Run r) i s = record s { away = set s.away i true }
lent_by (lend.Refused why) i s = s

-- ---- a run comes home

-- the place for which it was discarded
abbrev pub unlike_in : Home → Option Unlike
unlike_in (home.Taken k) = None
unlike_in (home.Discarded place kept given) = Some (record { place = place; kept = kept; given = given })

-- no event of a taken run has a reject
abbrev pub reject_by : Home → Option Reject → Option Reject
reject_by (home.Taken k) reject = if nat_eq k 0 then reject else None
reject_by (home.Discarded place kept given) reject = reject

-- behind so many turns more of a CPU, as far as they go
abbrev pub with_turns : ℕ → ℕ → Seen → Seen
with_turns j i s = record s { events = s.events ++ replicate j (Turn i) }

-- a taken run is so many turns of its CPU; no run of that CPU is away any more
abbrev pub home_by : Home → ℕ → Seen → Seen
home_by (home.Taken k) i s = record s {
  events = s.events ++ replicate k (Turn i);
  reject = reject_by (home.Taken k) s.reject;
  away = set s.away i false;
}
home_by (home.Discarded place kept given) i s = record s { away = set s.away i false }
