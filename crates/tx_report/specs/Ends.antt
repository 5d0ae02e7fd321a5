-- How the transactions of a CPU have ended.
use Rattle.std.specs.Prelude.{ℕ, ◌+◌, List, count_by, if◌then◌else◌}
use Rattle.tx_journal.specs.declared.entries.Entry.{Entry}
use Rattle.tx_meaning.specs.Shown.{commits_of, aborts_of}
use Rattle.tx_report.specs.declared.ends.Ends.{Ends}

-- as a history has it
abbrev pub ends_in : List Entry → ℕ → Ends
ends_in history i = record {
  commits = count_by (commits_of i) history;
  aborts = count_by (aborts_of i) history;
}

-- with one entry more
abbrev pub ends_with : Ends → ℕ → Entry → Ends
ends_with ends i entry = record {
  commits = ends.commits + (if commits_of i entry then 1 else 0);
  aborts = ends.aborts + (if aborts_of i entry then 1 else 0);
}
