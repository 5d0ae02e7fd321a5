-- What is kept while a run is watched: the octowords of live attempts, and the lines with what was counted
-- so far.
use Rattle.std.specs.Prelude.{◌≡◌, ◌≢◌, ℕ, ◌+◌, ◌^◌, ◌<◌, ◌≤◌, ◌++◌, Bool, true, false, List, [], length}
use Rattle.std.specs.Prelude.{Some, count_by, nat_lt, slice_get, All}
use Rattle.z_regs.specs.declared.ranges.Range.{Range}
use Rattle.z_regs.specs.Prefix.{storage_size}
use Rattle.line_table.specs.Sizes.{storage_lines}
use Rattle.tx_journal.specs.declared.entries.Entry.{Entry}
use Rattle.tx_journal.specs.declared.entries.Entry.TheVariants.{Step, Commit, Abort, Tdb, Interrupt}
use Rattle.tx_journal.specs.declared.events.Event.{Event}
use Rattle.tx_journal.specs.declared.events.Event.TheVariants.{Turn, External}
use Rattle.tx_meaning.specs.Limits.{Setting}
use Rattle.tx_meaning.specs.Meaning.{IsSetting, meaning}
use Rattle.tx_meaning.specs.Views.{AreKnown}
use Rattle.tx_meaning.specs.State.{State, is_live, attempt_of}
use Rattle.tx_schedule.specs.Machine.{Seen, setting_of, state_of}
use Rattle.tx_schedule.specs.Wanted.{wanted}
use Rattle.tx_heat.specs.Conflicts.{Conflict, conflicts}
use Rattle.tx_heat.specs.Heats.{line_heat}
use Rattle.tx_heat.specs.Marks.{Marks, AreMarksOf}
use Rattle.tx_heat.specs.Octowords.{are_apart}
use Rattle.tx_heat.specs.declared.counting.LineHeat.{LineHeat}

-- known events lead to the state
pub record IsReached (m : Setting) (s : State) : Type 0 where
  pub events : List Event
  pub known : AreKnown m events
  pub is : s ≡ meaning m events

-- what is kept of a CPU: the marks of its attempt, how many instructions that has completed, and ranges that the CPU
-- asks for; whether these are known to be what it asks for next
pub record Tracked : Type 0 where
  pub marks : Marks
  pub completed : ℕ
  pub asked : List Range
  pub known : Bool

-- nothing is marked, and nothing known
pub record IsUnused (t : Tracked) : Type 0 where
  pub marks : AreMarksOf t.marks []
  pub completed : t.completed ≡ 0
  pub known : t.known ≡ false

-- all ranges lie in storage
abbrev pub AreInside : List Range → Type 0
AreInside ranges = All (λ r. r.first + r.length ≤ storage_size) ranges

-- the marks are those of the CPU's attempt, which has completed so many instructions; what the CPU asks for next is
-- known of a live one alone
pub record IsTrack (m : Setting) (s : State) (j : ℕ) (t : Tracked) : Type 0 where
  pub marks : AreMarksOf t.marks (attempt_of m s j).touched
  pub completed : t.completed ≡ (s.numbers j).completed
  pub live : t.known ≡ true → is_live s j ≡ true
  pub asked : t.known ≡ true → t.asked ≡ wanted m s j

-- for what lies apart from any attempt's octowords these ranges are as good as what the CPU asks for, and a live
-- attempt's CPU asks for them
pub record SpeaksFor (m : Setting) (s : State) (cpu : ℕ) (asked : List Range) : Type 0 where
  pub apart : (holder line : ℕ) → are_apart asked (attempt_of m s holder).touched line
      ≡ are_apart (wanted m s cpu) (attempt_of m s holder).touched line
  pub own : is_live s cpu ≡ true → asked ≡ wanted m s cpu

-- of each CPU; one that is not there has no attempt
pub record AreTracks (m : Setting) (s : State) (tracks : List Tracked) : Type 0 where
  pub each : (j : ℕ) (t : Tracked) → slice_get tracks j ≡ Some t → IsTrack m s j t
  pub beyond : (j : ℕ) → length tracks ≤ j → is_live s j ≡ false

-- these conflicts are counted, each at its line of storage
pub record AreCounted (lines : List LineHeat) (found : List Conflict) : Type 0 where
  pub size : length lines ≡ storage_lines
  pub at : (line : ℕ) → line < storage_lines → slice_get lines line ≡ Some (line_heat found line)

-- a machine, what is kept of its CPUs, and the lines with what was counted: the conflicts of what it has recorded, of
-- which there are no more than it has entries and events
pub record IsWatched (machine : Seen) (tracks : List Tracked) (lines : List LineHeat) : Type 0 where
  pub setting : IsSetting (setting_of machine)
  pub cpus : length tracks ≡ length machine.image.cpus
  pub tracks_are : AreTracks (setting_of machine) (state_of machine) tracks
  pub counted : AreCounted lines (conflicts (setting_of machine) machine.events)
  pub few : length (conflicts (setting_of machine) machine.events)
      ≤ length (state_of machine).history + length machine.events

-- so many more can be counted
pub record IsBelow (h : LineHeat) (more : ℕ) : Type 0 where
  pub rejects : h.rejects + more < 2 ^ 40
  pub aborts : h.aborts + more < 2 ^ 40
  pub disjoint : h.disjoint + more < 2 ^ 40

pub record HasRoom (lines : List LineHeat) (more : ℕ) : Type 0 where
  pub each : (k : ℕ) (h : LineHeat) → slice_get lines k ≡ Some h → IsBelow h more

-- what a CPU's attempt has touched behind an event, by what it had touched before it and what the event's
-- CPU asked for, where that had a live attempt; and what an attempt that has completed no more asks for next
pub record Passes (m : Setting) (before after : State) (cpu : ℕ) (asked : List Range) (j : ℕ) : Type 0 where
  pub over : is_live after j ≡ false → (attempt_of m after j).touched ≡ []
  pub begins : is_live before j ≡ false → (attempt_of m after j).touched ≡ []
  pub stays : is_live after j ≡ true → (after.numbers j).completed ≡ (before.numbers j).completed
      → (attempt_of m after j).touched ≡ (attempt_of m before j).touched
  pub others : j ≢ cpu → is_live after j ≡ true → (after.numbers j).completed ≡ (before.numbers j).completed
  pub more : j ≡ cpu → is_live before j ≡ true → is_live after j ≡ true
      → (after.numbers j).completed ≢ (before.numbers j).completed
      → (attempt_of m after j).touched ≡ (attempt_of m before j).touched ++ asked
  pub wants : is_live before j ≡ true → (after.numbers j).completed ≡ (before.numbers j).completed
      → wanted m after j ≡ wanted m before j

-- ---- aborts

-- an entry tells of an abort, for whatever cause
abbrev pub is_abort : Entry → Bool
is_abort (Abort i n why) = true
is_abort (Step i) = false
is_abort (Commit i n) = false
is_abort (Tdb i) = false
is_abort (Interrupt i) = false

abbrev pub aborts : List Entry → ℕ
aborts entries = count_by is_abort entries

-- attempts of other CPUs have completed what they had completed
pub record StaysBeside (before after : State) (cpu : ℕ) : Type 0 where
  pub same : (j : ℕ) → j ≢ cpu → (after.numbers j).completed ≡ (before.numbers j).completed

-- ---- turns of waiting

-- the event is a turn of a CPU that has still to wait
abbrev pub Waits : State → Event → Type 0
Waits s (Turn i) = nat_lt 0 (s.numbers i).delay ≡ true
Waits s (External i) = false ≡ true
