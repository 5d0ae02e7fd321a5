-- What is sound in an entry beside its CPU: the cause of an abort, and how many instructions an attempt has
-- completed.
use Rattle.std.specs.Prelude.{ℕ, ◌≤◌}
use Rattle.tx_journal.specs.Sound.{IsCause}
use Rattle.tx_journal.specs.declared.entries.Entry.{Entry}
use Rattle.tx_journal.specs.declared.entries.Entry.TheVariants.{Step, Commit, Abort, Tdb, Interrupt}

-- an abort has a cause that a machine finds
abbrev pub HasCause : Entry → Type 0
HasCause (Abort cpu count why) = IsCause why
HasCause (Step cpu) = Unit {0}
HasCause (Commit cpu count) = Unit {0}
HasCause (Tdb cpu) = Unit {0}
HasCause (Interrupt cpu) = Unit {0}

-- an attempt that is at its end has completed no more instructions than that
abbrev pub HasAtMost : ℕ → Entry → Type 0
HasAtMost most (Commit cpu count) = count ≤ most
HasAtMost most (Abort cpu count why) = count ≤ most
HasAtMost most (Step cpu) = Unit {0}
HasAtMost most (Tdb cpu) = Unit {0}
HasAtMost most (Interrupt cpu) = Unit {0}
