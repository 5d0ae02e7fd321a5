-- Entries that a machine can write, and what their lines leave out.
use Rattle.std.specs.Prelude.{ℕ, ◌<◌, ◌^◌, false}
use Rattle.tx_control.specs.AbortCodes as abort
use Rattle.tx_control.specs.declared.exceptions.Exception.{Exception}
use Rattle.tx_control.specs.declared.causes.Why.{Why}
use Rattle.tx_control.specs.declared.causes.Why.TheVariants.{Program, FetchConflict, StoreConflict, Filtered}
use Rattle.tx_control.specs.declared.causes.Why.TheVariants.{Tabort}
use Rattle.tx_journal.specs.declared.entries.Entry.{Entry}
use Rattle.tx_journal.specs.declared.entries.Entry.TheVariants.{Step, Commit, Abort, Tdb, Interrupt}

-- a conflict is on a line of storage, TABORT gives a code above those of the machine, and an exception's code
-- is a halfword
abbrev pub IsCause : Why → Type 0
IsCause (Program e) = e.code < 2 ^ 16
IsCause (Filtered e) = e.code < 2 ^ 16
IsCause (FetchConflict line) = line < 4096
IsCause (StoreConflict line) = line < 4096
IsCause (Tabort code) = (abort.starved < code) × (code < 2 ^ 64)
IsCause _ = Unit {0}

-- CPU and count fit 32 bits, and the cause is one that a machine finds
abbrev pub IsSound : Entry → Type 0
IsSound (Step cpu) = cpu < 2 ^ 32
IsSound (Commit cpu count) = (cpu < 2 ^ 32) × (count < 2 ^ 32)
IsSound (Abort cpu count why) = (cpu < 2 ^ 32) × (count < 2 ^ 32) × IsCause why
IsSound (Tdb cpu) = cpu < 2 ^ 32
IsSound (Interrupt cpu) = cpu < 2 ^ 32

-- an exception by its code alone
abbrev pub by_code : ℕ → Exception
by_code code = record { code = code; fetch = false; length = 0 }

-- a cause as its text tells it: of an exception neither whether it came at a fetch nor the length of the
-- instruction
abbrev pub told_cause : Why → Why
told_cause (Program e) = Program (by_code e.code)
told_cause (Filtered e) = Filtered (by_code e.code)
told_cause why = why

-- an entry as its line tells it
abbrev pub told : Entry → Entry
told (Abort cpu count why) = Abort cpu count (told_cause why)
told e = e
