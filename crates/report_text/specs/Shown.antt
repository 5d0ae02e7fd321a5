-- All that a report tells, as plain data.
use Rattle.std.specs.Prelude.{ℕ, Bool, List, Option, map}
use Rattle.z_regs.specs.Cpu.{Cpu, cpu_of}
use Rattle.tx_journal.specs.declared.entries.Entry.{Entry}
use Rattle.tx_journal.specs.declared.events.Event.{Event}
use Rattle.tx_journal.specs.declared.image.Show.{Show}
use Rattle.report_text.specs.declared.processors.Attempt.{Attempt}
use Rattle.report_text.specs.declared.processors.Counts.{Counts}
use Rattle.report_text.specs.declared.processors.Processor.{Processor}

-- a CPU: its registers and its state, its live attempt, the real address of the block that it has still to
-- store, its counts, and whether it is finished
pub record ShownCpu : Type 0 where
  pub cpu : Cpu
  pub attempt : Option Attempt
  pub pending : Option ℕ
  pub counts : Counts
  pub finished : Bool

abbrev pub shown_cpu : Processor → ShownCpu
shown_cpu p = record {
  cpu = cpu_of p.image;
  attempt = p.attempt;
  pending = p.pending;
  counts = p.counts;
  finished = p.finished;
}

-- the CPUs, what of storage is shown, all of storage, the serial history, and the recorded events
pub record Shown : Type 0 where
  pub cpus : List ShownCpu
  pub shows : List Show
  pub storage : List ℕ
  pub history : List Entry
  pub events : List Event

-- what the parts of a report show
abbrev pub shown_of : List Processor → List Show → List ℕ → List Entry → List Event → Shown
shown_of cpus shows storage history events = record {
  cpus = map shown_cpu cpus;
  shows = shows;
  storage = storage;
  history = history;
  events = events;
}
