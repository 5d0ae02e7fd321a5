-- The state of a machine, and what is read in it.
use Rattle.std.specs.Prelude.{ℕ, Bool, nat_lt, List, [], ◌∷◌, ◌==◌, false, length, Option, Some, None}
use Rattle.z_regs.specs.Cpu.{Cpu}
use Rattle.tx_control.specs.Nesting.{is_constrained}
use Rattle.interrogate.specs.Touched.{Sets}
use Rattle.tx_ladder.specs.Rungs.{Standing}
use Rattle.tx_serial.specs.Entry.{Entry}
use Rattle.tx_serial.specs.Event.{Event}
use Rattle.line_table.specs.Holders.{Holders, nobody}
use Rattle.tx_serial.specs.Flat.{FlatState}
use Rattle.tx_serial.specs.Attempt.{Run, footprint}
use Rattle.tx_serial.specs.Run.{run}
use Rattle.tx_serial.specs.History.{replay, start_of}
use Rattle.tx_meaning.specs.Limits.{Setting}
use Rattle.tx_meaning.specs.Hits.{hits}

-- of one CPU: the instructions that its live attempt has completed, 0 where none is live; the attempts that
-- it
-- has started; the rejects that the last of them gave, and its requests that were rejected; the turns that it
-- still waits; its counted turns; its questions to holders, and those of them that were answered by a reject
pub record Numbers : Type 0 where
  pub completed : ℕ
  pub attempts : ℕ
  pub given : ℕ
  pub refused : ℕ
  pub delay : ℕ
  pub turns : ℕ
  pub asked : ℕ
  pub rejected : ℕ

abbrev pub zeros : Numbers
zeros = record {
  completed = 0;
  attempts = 0;
  given = 0;
  refused = 0;
  delay = 0;
  turns = 0;
  asked = 0;
  rejected = 0;
}

-- the history, the events that were recorded, the stop queue, who holds which line, and each CPU's numbers
pub record State : Type 0 where
  pub history : List Entry
  pub events : List Event
  pub queue : List ℕ
  pub held : Holders
  pub numbers : ℕ → Numbers

abbrev pub beginning : State
beginning = record { history = []; events = []; queue = []; held = nobody; numbers = λ i. zeros }

-- ---- what the history says

abbrev pub flat_where : Setting → Option FlatState → FlatState
flat_where m None = start_of m.image
flat_where m (Some f) = f

-- storage and the CPUs
unfoldable pub flat_of : Setting → State → FlatState
flat_of m s = flat_where m (replay m.image s.history)

-- the private run of a CPU's live attempt; where none is live, the CPU at rest
abbrev pub attempt_of : Setting → State → ℕ → Run
attempt_of m s i = run (flat_of m s) i (s.numbers i).completed

abbrev pub is_live : State → ℕ → Bool
is_live s i = nat_lt 0 (s.numbers i).completed

-- the CPU as its program sees it
abbrev pub cpu_of : Setting → State → ℕ → Cpu
cpu_of m s i = (attempt_of m s i).cpu

-- the lines and blocks that its live attempt has touched
abbrev pub footprint_of : Setting → State → ℕ → Sets
footprint_of m s i = footprint (attempt_of m s i)

-- where it stands on the retry ladder
abbrev pub standing_of : Setting → State → ℕ → Standing
standing_of m s i = record {
  parms = m.image.parms;
  aborts = hits m.image s.history i;
  constrained = is_constrained (attempt_of m s i).nest;
  rejects_given = (s.numbers i).given;
  requests_rejected = (s.numbers i).refused;
}

-- ---- the stop queue

abbrev pub is_first : ℕ → List ℕ → Bool
is_first i [] = false
is_first i (head ∷ rest) = head == i

abbrev pub is_head : State → ℕ → Bool
is_head s i = is_first i s.queue

abbrev pub cpus_of : Setting → ℕ
cpus_of m = length m.image.cpus
