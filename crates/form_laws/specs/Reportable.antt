-- States whose numbers have their places in a report.
use Rattle.std.specs.Prelude.{◌≡◌, ℕ, ◌<◌, ◌≤◌, ◌^◌, length, All, slice_get, Option, Some, None}
use Rattle.hex.specs.Hex.{IsBytes}
use Rattle.tx_journal.specs.Content.{Content}
use Rattle.tx_journal.specs.Image.{IsShown, cpu_of_event}
use Rattle.tx_journal.specs.Lines.{fields_of, line_of}
use Rattle.tx_journal.specs.Sound.{IsSound}
use Rattle.tx_journal.specs.declared.entries.Entry.{Entry}
use Rattle.tx_journal.specs.declared.events.Event.{Event}
use Rattle.report_form.specs.Sheet.{last_of}
use Rattle.report_text.specs.Shown.{Shown, ShownCpu}
use Rattle.report_text.specs.declared.processors.Attempt.{Attempt}
use Rattle.report_text.specs.declared.processors.Counts.{Counts}

-- an attempt with no more instructions than there can be
abbrev pub IsShort : Option Attempt → Type 0
IsShort None = Unit {0}
IsShort (Some a) = (a.depth < 2 ^ 64) × (a.completed ≤ 200000)

-- numbers of 64 bits
pub record AreCounts (c : Counts) : Type 0 where
  pub turns : c.turns < 2 ^ 64
  pub asked : c.asked < 2 ^ 64
  pub rejected : c.rejected < 2 ^ 64
  pub commits : c.commits < 2 ^ 64
  pub aborts : c.aborts < 2 ^ 64

-- sixteen registers of each kind, and numbers that have their places
pub record CanBeTold (c : ShownCpu) : Type 0 where
  pub general : length c.cpu.general ≡ 16
  pub access : length c.cpu.access ≡ 16
  pub condition : c.cpu.condition < 2 ^ 64
  pub mask : c.cpu.mask < 16
  pub attempt : IsShort c.attempt
  pub counts : AreCounts c.counts

-- the entry is sound, of a CPU that is there, and has no more instructions than there can be
pub record IsListed (last : ℕ) (e : Entry) : Type 0 where
  pub sound : IsSound e
  pub known : (fields_of (line_of e)).cpu ≤ last
  pub few : (fields_of (line_of e)).count ≤ 200000

-- the event is of a CPU that is there
abbrev pub IsKnown : ℕ → Event → Type 0
IsKnown last e = cpu_of_event e ≤ last

-- one to sixteen CPUs, as many as the image has, and what the image shows of a whole storage
pub record CanBeReported (image : Content) (s : Shown) : Type 0 where
  pub some : 0 < length image.cpus
  pub few : length image.cpus ≤ 16
  pub count : length s.cpus ≡ length image.cpus
  pub cpus : (i : ℕ) (c : ShownCpu) → slice_get s.cpus i ≡ Some c → CanBeTold c
  pub shows : s.shows ≡ image.shows
  pub shown : All IsShown image.shows
  pub bytes : IsBytes s.storage
  pub size : length s.storage ≡ 1048576
  pub entries : All (IsListed (last_of image)) s.history
  pub few_entries : length s.history < 2 ^ 64
  pub events : All (IsKnown (last_of image)) s.events
  pub few_events : length s.events < 2 ^ 64
