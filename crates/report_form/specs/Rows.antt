-- The rows of a report: what a line tells by its place, and in which words.
use Rattle.std.specs.Prelude.{ℕ, ◌≤◌, ◌⊎◌, List, [], ◌∷◌, replicate, min}
use Rattle.tx_journal.specs.declared.entries.EntryText.{EntryText}
use Rattle.tx_journal.specs.Lines.{Spells}
use Rattle.report_form.specs.declared.words.Name.TheVariants as name
use Rattle.report_form.specs.declared.words.Word.{Word}
use Rattle.report_form.specs.declared.words.Word.TheVariants.{Fixed, AtMost, Digits, Event}
use Rattle.report_form.specs.declared.rows.Row.{Row}
use Rattle.report_form.specs.declared.rows.Row.TheVariants as row
use Rattle.report_form.specs.Spelling.{Spelled}

-- the greatest number of 64 bits, and the most instructions of an attempt
abbrev pub most : ℕ
most = 18446744073709551615

abbrev pub most_completed : ℕ
most_completed = 200000

-- the line of an entry, of a CPU that is there, with no more instructions than there can be
pub record IsEntryLine (last : ℕ) (line : List ℕ) : Type 0 where
  pub entry : EntryText
  pub spells : Spells line entry
  pub known : entry.cpu ≤ last
  pub few : entry.count ≤ most_completed

-- a line in one of two ways
abbrev pub Either : List Word → List Word → List ℕ → Type 0
Either one other line = Spelled one line ⊎ Spelled other line

abbrev pub cpu_words : ℕ → List Word → List Word
cpu_words last others = Fixed name.Cpu ∷ AtMost last ∷ others

-- events behind a blank and SCHED, with commas between them
abbrev pub events_words : ℕ → ℕ → List Word
events_words last count = Fixed name.Empty ∷ Fixed name.Sched ∷ replicate count (Event last)

-- the line tells what the row tells, where the last CPU has this number
unfoldable pub IsRow : ℕ → Row → List ℕ → Type 0
IsRow last row.Title line = Spelled (Fixed name.Ztx ∷ Fixed name.Report ∷ []) line
IsRow last row.Status line =
    Either (Fixed name.Status ∷ Fixed name.Zero ∷ [])
    (Fixed name.Status ∷ Fixed name.Six ∷ []) line
IsRow last row.State line =
    Spelled (cpu_words last (Fixed name.Halted ∷ [])) line
    ⊎ Either (cpu_words last (Fixed name.Running ∷ [])) (cpu_words last (Fixed name.Interrupted ∷ Digits 4 ∷ [])) line
IsRow last row.Psw line =
    Spelled (Fixed name.Psw ∷ Digits 16 ∷ Fixed name.Condition ∷ AtMost most ∷ Fixed name.Mask ∷ Digits 1 ∷ []) line
IsRow last (row.General first) line =
    Spelled (Fixed name.General ∷ Fixed first ∷ Digits 16 ∷ Digits 16 ∷ Digits 16 ∷ Digits 16 ∷ []) line
IsRow last (row.Access first) line =
    Spelled (Fixed name.Access ∷ Fixed first ∷ Digits 8 ∷ Digits 8 ∷ Digits 8 ∷ Digits 8
    ∷ Digits 8 ∷ Digits 8 ∷ Digits 8 ∷ Digits 8 ∷ []) line
IsRow last row.Attempt line =
    Either (Fixed name.Transaction ∷ Fixed name.Nothing ∷ [])
    (Fixed name.Transaction ∷ Fixed name.Depth ∷ AtMost most ∷ Fixed name.Completed ∷ AtMost most_completed ∷ []) line
IsRow last row.Pending line =
    Either (Fixed name.Pending ∷ Fixed name.Nothing ∷ [])
    (Fixed name.Pending ∷ Digits 16 ∷ []) line
IsRow last row.Counts line =
    Spelled (Fixed name.Counts ∷ Fixed name.Turns ∷ AtMost most ∷ Fixed name.Asked ∷ AtMost most
    ∷ Fixed name.Rejected ∷ AtMost most ∷ Fixed name.Commits ∷ AtMost most
    ∷ Fixed name.Aborts ∷ AtMost most ∷ []) line
IsRow last (row.Bytes digits) line = Spelled (Fixed name.Bytes ∷ Digits 8 ∷ Digits digits ∷ []) line
IsRow last row.Block line =
    Spelled (Fixed name.Block ∷ Digits 8 ∷ Fixed name.Format ∷ AtMost most ∷ Fixed name.Flags ∷ Digits 2
    ∷ Fixed name.Depth ∷ AtMost most ∷ Fixed name.Code ∷ AtMost most ∷ Fixed name.Token ∷ Digits 16
    ∷ Fixed name.At ∷ Digits 16 ∷ Fixed name.Interruption ∷ Digits 4 ∷ []) line
IsRow last row.Entry line = IsEntryLine last line
IsRow last (row.Events count) line = Spelled (events_words last (min count 16)) line
IsRow last row.End line = Spelled (Fixed name.End ∷ []) line
