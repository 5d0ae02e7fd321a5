-- What a line tells of the cause of an abort, and of an entry.
use Rattle.std.specs.Prelude.{◌≡◌, ℕ, Bool, true, false}
use Rattle.tx_control.specs.declared.causes.Why.{Why}
use Rattle.tx_control.specs.declared.causes.Why.TheVariants.{Program, Filtered}
use Rattle.tx_control.specs.Causes.{code_number}
use Rattle.tx_journal.specs.declared.entries.Entry.{Entry}
use Rattle.tx_journal.specs.declared.entries.EntryText.{EntryText}
use Rattle.tx_journal.specs.Lines.{detail_of, detail_value, fields_of, line_of}

-- this code and this detail are told of the cause
pub record Tells (why : Why) (code detail : ℕ) : Type 0 where
  pub code_is : code_number why ≡ code
  pub detail_is : detail_value (detail_of why) ≡ detail

-- an exception, of which no more is told than its code
abbrev pub is_exception : Why → Bool
is_exception (Program e) = true
is_exception (Filtered e) = true
is_exception _ = false

-- these numbers are told of the entry
abbrev pub TellsEntry : Entry → EntryText → Type 0
TellsEntry entry t = fields_of (line_of entry) ≡ t
