-- How many transactions of each CPU a history has ended.
use Rattle.std.specs.Prelude.{◌≡◌, ℕ, ◌<◌, Bool, List, length, get_or, count_by}
use Rattle.tx_journal.specs.declared.entries.Entry.{Entry}
use Rattle.tx_meaning.specs.Shown.{commits_of, aborts_of}
use Rattle.tx_replay.specs.declared.ends.Ends.{Ends}

-- for each CPU there is the number of entries of the history that are so of it
pub record AreCounted (of : ℕ → Entry → Bool) (history : List Entry) (cpus : ℕ) (counts : List ℕ) : Type 0 where
  pub many : length counts ≡ cpus
  pub each : (i : ℕ) → i < cpus → get_or counts i 0 ≡ count_by (of i) history

-- these are the commits and the aborts of so many CPUs
pub record AreEnds (history : List Entry) (cpus : ℕ) (e : Ends) : Type 0 where
  pub commits : AreCounted commits_of history cpus e.commits.items
  pub aborts : AreCounted aborts_of history cpus e.aborts.items
