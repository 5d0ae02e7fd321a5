-- What a state of a machine shows to whoever reports it.
use Rattle.std.specs.Prelude.{ℕ, List, map, Option, Some, None}
use Rattle.std.specs.List.{range_with_len}
use Rattle.report_text.specs.Shown.{Shown, ShownCpu}
use Rattle.report_text.specs.declared.processors.Attempt.{Attempt}
use Rattle.report_text.specs.declared.processors.Counts as told
use Rattle.tx_serial.specs.Flat.{bytes_of}
use Rattle.tx_serial.specs.Flat.{address_of}
use Rattle.tx_meaning.specs.Limits.{Setting}
use Rattle.tx_meaning.specs.State.{State, flat_of, cpu_of, cpus_of}
use Rattle.tx_meaning.specs.Idle.{is_finished}
use Rattle.tx_meaning.specs.declared.counts.Counts.{Counts}
use Rattle.tx_meaning.specs.Shown.{levels_at, counts_at}

-- the live attempt, by its open begins and its completed instructions
abbrev pub attempt_shown : Option (ℕ × ℕ) → Option Attempt
attempt_shown None = None
attempt_shown (Some levels) = Some (record { depth = levels.0; completed = levels.1 })

abbrev pub counts_shown : Counts → told.Counts
counts_shown c = record {
  turns = c.turns;
  asked = c.asked;
  rejected = c.rejected;
  commits = c.commits;
  aborts = c.aborts;
}

-- a CPU as its program sees it, also in a live attempt
abbrev pub cpu_shown : Setting → State → ℕ → ShownCpu
cpu_shown m s i = record {
  cpu = cpu_of m s i;
  attempt = attempt_shown (levels_at m s i);
  pending = address_of ((flat_of m s).pending i);
  counts = counts_shown (counts_at s i);
  finished = is_finished m s i;
}

-- every CPU in the order of the numbers
abbrev pub cpus_shown : Setting → State → List ShownCpu
cpus_shown m s = map (cpu_shown m s) (range_with_len 0 (cpus_of m))

-- the CPUs, shared storage, in which no store of a live attempt is, the history, and the recorded events
abbrev pub shown_in : Setting → State → Shown
shown_in m s = record {
  cpus = cpus_shown m s;
  shows = m.image.shows;
  storage = bytes_of (flat_of m s).storage;
  history = s.history;
  events = s.events;
}
