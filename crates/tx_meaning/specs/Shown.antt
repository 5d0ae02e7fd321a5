-- What is shown of a CPU beside its image.
use Rattle.std.specs.Prelude.{ℕ, Bool, false, ◌==◌, length, Option, Some, None, if◌then◌else◌, count_by}
use Rattle.tx_serial.specs.Entry.{Entry}
use Rattle.tx_serial.specs.Entry.TheVariants.{Step, Commit, Abort, Tdb, Interrupt}
use Rattle.tx_meaning.specs.Limits.{Setting}
use Rattle.tx_meaning.specs.State.{State, is_live, attempt_of}
use Rattle.tx_meaning.specs.declared.counts.Counts.{Counts}

-- how many begins are open, and how many instructions are completed, of an attempt that is live
abbrev pub levels_at : Setting → State → ℕ → Option (ℕ × ℕ)
levels_at m s i = if is_live s i then Some (length (attempt_of m s i).nest, (s.numbers i).completed) else None

-- ---- counted in the history

abbrev pub commits_of : ℕ → Entry → Bool
commits_of i (Commit j n) = j == i
commits_of i (Step j) = false
commits_of i (Abort j n why) = false
commits_of i (Tdb j) = false
commits_of i (Interrupt j) = false

abbrev pub aborts_of : ℕ → Entry → Bool
aborts_of i (Abort j n why) = j == i
aborts_of i (Step j) = false
aborts_of i (Commit j n) = false
aborts_of i (Tdb j) = false
aborts_of i (Interrupt j) = false

abbrev pub counts_at : State → ℕ → Counts
counts_at s i = record {
  turns = (s.numbers i).turns;
  asked = (s.numbers i).asked;
  rejected = (s.numbers i).rejected;
  commits = count_by (commits_of i) s.history;
  aborts = count_by (aborts_of i) s.history;
}
