-- The lines of the history, and the parts of which each is made.
use Rattle.std.specs.Prelude.{◌≡◌, ℕ, ◌<◌, ◌^◌, ◌*◌, ◌%◌, Bool, true, ◌||◌, nat_eq, nat_lt, List, ◌++◌, codes}
use Rattle.std.specs.Prelude.{slice_index}
use Rattle.std.specs.List.{flat_map}
use Rattle.std.specs.Fmt.{decimal}
use Rattle.std.specs.Int.{to_be_bytes}
use Rattle.hex.specs.Hex.{encode_lower}
use mir.Syntax.{w16, w64}
use Rattle.z_regs.specs.Prefix.{storage_size}
use Rattle.tx_control.specs.AbortCodes as abort
use Rattle.tx_control.specs.declared.causes.Why.{Why}
use Rattle.tx_control.specs.declared.causes.Why.TheVariants.{Program, FetchConflict, StoreConflict, Filtered}
use Rattle.tx_control.specs.Causes.{code_number}
use Rattle.tx_journal.specs.declared.entries.Entry.{Entry}
use Rattle.tx_journal.specs.declared.entries.Entry.TheVariants as entry
use Rattle.tx_journal.specs.declared.entries.EntryText.{EntryText}
use Rattle.tx_journal.specs.declared.lines.Detail.{Detail}
use Rattle.tx_journal.specs.declared.lines.Detail.TheVariants.{Nothing, Exception, Line as AtLine}
use Rattle.tx_journal.specs.declared.lines.Reason.{Reason}
use Rattle.tx_journal.specs.declared.lines.Line.{Line}
use Rattle.tx_journal.specs.declared.lines.Line.TheVariants.{Step, Commit, Abort, Tdb, Interrupt}

-- ---- the text of a line

-- nothing, the exception's code in four hexadecimal digits, or the line's first address in sixteen
abbrev pub detail_text : Detail → List ℕ
detail_text Nothing = codes "-"
detail_text (Exception code) = encode_lower (to_be_bytes w16 code)
detail_text (AtLine address) = encode_lower (to_be_bytes w64 address)

abbrev pub reason_text : Reason → List ℕ
reason_text r = decimal r.code ++ (codes " " ++ detail_text r.detail)

-- the words of a line, without its end
abbrev pub words_text : Line → List ℕ
words_text (Step cpu) = codes "S " ++ decimal cpu
words_text (Commit cpu count) = codes "C " ++ (decimal cpu ++ (codes " " ++ decimal count))
words_text (Abort cpu count reason) =
    codes "A " ++ (decimal cpu ++ (codes " " ++ (decimal count ++ (codes " " ++ reason_text reason))))
words_text (Tdb cpu) = codes "T " ++ decimal cpu
words_text (Interrupt cpu) = codes "I " ++ decimal cpu

abbrev pub line_text : Line → List ℕ
line_text l = words_text l ++ codes "\n"

-- ---- the line of an entry

-- the code of an exception, or the first address of a line of 256 bytes
abbrev pub detail_of : Why → Detail
detail_of (Program e) = Exception e.code
detail_of (Filtered e) = Exception e.code
detail_of (FetchConflict line) = AtLine (line * 256)
detail_of (StoreConflict line) = AtLine (line * 256)
detail_of _ = Nothing

abbrev pub reason_of : Why → Reason
reason_of why = record { code = code_number why; detail = detail_of why }

abbrev pub line_of : Entry → Line
line_of (entry.Step cpu) = Step cpu
line_of (entry.Commit cpu count) = Commit cpu count
line_of (entry.Abort cpu count why) = Abort cpu count (reason_of why)
line_of (entry.Tdb cpu) = Tdb cpu
line_of (entry.Interrupt cpu) = Interrupt cpu

abbrev pub entry_text : Entry → List ℕ
entry_text e = line_text (line_of e)

-- the lines of the entries, one after the other
abbrev pub history_text : List Entry → List ℕ
history_text history = flat_map entry_text history

-- ---- which lines there are

-- external interruption, overflows, a restricted instruction, the nesting depth, starvation, and TABORT say
-- no more than their code; program interruption and filtered exception name the exception, and conflicts the
-- line
abbrev pub says_nothing : ℕ → Bool
says_nothing code =
    nat_eq code abort.external_interruption
    || (nat_eq code abort.fetch_overflow || (nat_eq code abort.store_overflow
    || (nat_eq code abort.restricted_instruction || (nat_eq code abort.nesting_depth
    || (nat_eq code abort.starved || nat_lt abort.starved code)))))

abbrev pub says_exception : ℕ → Bool
says_exception code = nat_eq code abort.program_interruption || nat_eq code abort.filtered_exception

abbrev pub says_line : ℕ → Bool
says_line code = nat_eq code abort.fetch_conflict || nat_eq code abort.store_conflict

-- a line of storage begins there
pub record IsLineAddress (address : ℕ) : Type 0 where
  pub within : address < storage_size
  pub boundary : address % 256 ≡ 0

-- the detail is one that an abort of this code has
abbrev pub HasDetail : ℕ → Detail → Type 0
HasDetail code Nothing = says_nothing code ≡ true
HasDetail code (Exception exception) = (says_exception code ≡ true) × (exception < 2 ^ 16)
HasDetail code (AtLine address) = (says_line code ≡ true) × IsLineAddress address

pub record IsReason (r : Reason) : Type 0 where
  pub fits : r.code < 2 ^ 64
  pub detail : HasDetail r.code r.detail

-- the numbers fit their fields, and the cause is one that aborts have
abbrev pub IsLine : Line → Type 0
IsLine (Step cpu) = cpu < 2 ^ 32
IsLine (Commit cpu count) = (cpu < 2 ^ 32) × (count < 2 ^ 32)
IsLine (Abort cpu count reason) = (cpu < 2 ^ 32) × (count < 2 ^ 32) × IsReason reason
IsLine (Tdb cpu) = cpu < 2 ^ 32
IsLine (Interrupt cpu) = cpu < 2 ^ 32

-- ---- a line in numbers

abbrev pub detail_value : Detail → ℕ
detail_value Nothing = 0
detail_value (Exception code) = code
detail_value (AtLine address) = address

abbrev pub kind_and_cpu : ℕ → ℕ → EntryText
kind_and_cpu kind cpu = record { kind = kind; cpu = cpu; count = 0; code = 0; detail = 0 }

abbrev letter : List ℕ → ℕ
letter text = slice_index text 0

-- the first letter, the CPU, the count, the code and the detail; what the line does not say is 0
abbrev pub fields_of : Line → EntryText
fields_of (Step cpu) = kind_and_cpu (letter (codes "S")) cpu
fields_of (Commit cpu count) = record (kind_and_cpu (letter (codes "C")) cpu) { count = count }
fields_of (Abort cpu count reason) =
    record (kind_and_cpu (letter (codes "A")) cpu)
    { count = count; code = reason.code; detail = detail_value reason.detail }
fields_of (Tdb cpu) = kind_and_cpu (letter (codes "T")) cpu
fields_of (Interrupt cpu) = kind_and_cpu (letter (codes "I")) cpu

-- the text is that of a line, and these are its numbers
pub record Spells (text : List ℕ) (t : EntryText) : Type 0 where
  pub line : Line
  pub sound : IsLine line
  pub text_is : text ≡ line_text line
  pub fields : t ≡ fields_of line
