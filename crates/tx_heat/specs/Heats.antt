-- Conflicts counted by line.
use Rattle.std.specs.Prelude.{ℕ, Bool, ◌&&◌, not, ◌==◌, List, map, count_by}
use Rattle.std.specs.List.{list_all, range_with_len}
use Rattle.line_table.specs.Sizes.{storage_lines}
use Rattle.tx_journal.specs.Content.{Content}
use Rattle.tx_journal.specs.declared.events.Event.{Event}
use Rattle.tx_meaning.specs.Idle.{is_finished}
use Rattle.tx_meaning.specs.Limits.{RunLimits, Setting}
use Rattle.tx_meaning.specs.Meaning.{meaning}
use Rattle.tx_meaning.specs.State.{State, cpus_of}
use Rattle.tx_heat.specs.Conflicts.{Conflict, conflicts}
use Rattle.tx_heat.specs.declared.counting.LineHeat.{LineHeat}

-- ---- of one line

abbrev pub is_reject_at : ℕ → Conflict → Bool
is_reject_at line c = c.line == line && c.rejected

abbrev pub is_abort_at : ℕ → Conflict → Bool
is_abort_at line c = c.line == line && not c.rejected

abbrev pub is_apart_at : ℕ → Conflict → Bool
is_apart_at line c = c.line == line && c.apart

abbrev pub line_heat : List Conflict → ℕ → LineHeat
line_heat found line = record {
  rejects = count_by (is_reject_at line) found;
  aborts = count_by (is_abort_at line) found;
  disjoint = count_by (is_apart_at line) found;
}

-- ---- of all lines

abbrev pub heats : List Conflict → List LineHeat
heats found = map (line_heat found) (range_with_len 0 storage_lines)

-- the lines of storage in order, and whether every CPU is finished
pub record Heated : Type 0 where
  pub lines : List LineHeat
  pub finished : Bool

abbrev pub all_finished : Setting → State → Bool
all_finished m s = list_all (is_finished m s) (range_with_len 0 (cpus_of m))

-- a run of an image over events
unfoldable pub heat_of : Content → RunLimits → List Event → Heated
heat_of image limits events =
    let m : Setting = record { image = image; limits = limits } in
    record {
      lines = heats (conflicts m events);
      finished = all_finished m (meaning m events);
    }
