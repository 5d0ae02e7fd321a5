-- What a report has to tell of a flat state that a history leaves.
use Rattle.std.specs.Prelude.{◌≡◌, ℕ, ◌≤◌, true, List, length, All, count_by, slice_get, Option, Some, None}
use Rattle.z_regs.specs.Cpu.{Cpu}
use Rattle.tx_journal.specs.Content.{Content}
use Rattle.tx_journal.specs.Sound.{IsSound}
use Rattle.tx_journal.specs.declared.entries.Entry.{Entry}
use Rattle.tx_serial.specs.Apply.{may_act}
use Rattle.tx_serial.specs.Attempt.{Open}
use Rattle.tx_serial.specs.Flat.{FlatState, address_of, bytes_of}
use Rattle.tx_serial.specs.History.{replay}
use Rattle.tx_serial.specs.Run.{run}
use Rattle.tx_meaning.specs.Idle.{finished_by}
use Rattle.tx_meaning.specs.Shown.{commits_of, aborts_of}
use Rattle.report_text.specs.Shown.{Shown, ShownCpu}
use Rattle.report_text.specs.declared.processors.Attempt.{Attempt}

-- a CPU can have this attempt: it runs and nothing is pending for it, and its run of so many instructions, at
-- least one, is open, with so many begins
pub record IsLive (f : FlatState) (i : ℕ) (a : Attempt) : Type 0 where
  pub acts : may_act f i ≡ true
  pub some : 1 ≤ a.completed
  pub mark : (run f i a.completed).mark ≡ Open
  pub deep : length (run f i a.completed).nest ≡ a.depth

-- a CPU as its program sees it: in an attempt, as its run has it
abbrev pub cpu_in : FlatState → ℕ → Option Attempt → Cpu
cpu_in f i None = f.cpus i
cpu_in f i (Some a) = (run f i a.completed).cpu

-- what is told of a CPU is what the state and the history have of it; its attempt, its turns and what it asked
-- are not looked at
pub record IsTold (f : FlatState) (history : List Entry) (i : ℕ) (c : ShownCpu) : Type 0 where
  pub cpu : c.cpu ≡ cpu_in f i c.attempt
  pub pending : c.pending ≡ address_of (f.pending i)
  pub commits : c.counts.commits ≡ count_by (commits_of i) history
  pub aborts : c.counts.aborts ≡ count_by (aborts_of i) history
  pub finished : c.finished ≡ finished_by (f.pending i) c.cpu

-- all that is told is what a legal history of the image leaves
pub record IsLeft (image : Content) (s : Shown) (after : FlatState) : Type 0 where
  pub replayed : replay image s.history ≡ Some after
  pub sound : All IsSound s.history
  pub count : length s.cpus ≡ length image.cpus
  pub cpus : (i : ℕ) (c : ShownCpu) → slice_get s.cpus i ≡ Some c → IsTold after s.history i c
  pub shows : s.shows ≡ image.shows
  pub storage : s.storage ≡ bytes_of after.storage

-- each attempt that is told is one that the CPU can have
abbrev pub AreLive : FlatState → Shown → Type 0
AreLive after s = (i : ℕ) (c : ShownCpu) (a : Attempt) → slice_get s.cpus i ≡ Some c → c.attempt ≡ Some a
    → IsLive after i a
