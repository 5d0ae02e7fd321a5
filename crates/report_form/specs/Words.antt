-- Words: what stands between two blanks of a line.
use Rattle.std.specs.Prelude.{◌≡◌, ℕ, ◌<◌, ◌≤◌, ◌^◌, Bool, true, ◌&&◌, ◌||◌, nat_le, List, [], ◌∷◌, length, codes}
use Rattle.std.specs.Prelude.{◌⊎◌, EachIndex, slice_index}
use Rattle.std.specs.Fmt.{decimal}
use Rattle.report_form.specs.declared.words.Name.{Name}
use Rattle.report_form.specs.declared.words.Name.TheVariants as name
use Rattle.report_form.specs.declared.words.Word.{Word}
use Rattle.report_form.specs.declared.words.Word.TheVariants.{Fixed, AtMost, Digits, Event}

abbrev pub name_text : Name → List ℕ
name_text name.Empty = []
name_text name.Zero = codes "0"
name_text name.Six = codes "6"
name_text name.From0 = codes "00"
name_text name.From4 = codes "04"
name_text name.From8 = codes "08"
name_text name.From12 = codes "12"
name_text name.Aborts = codes "ABORTS"
name_text name.Access = codes "AR"
name_text name.Asked = codes "ASKED"
name_text name.At = codes "AT"
name_text name.Condition = codes "CC"
name_text name.Code = codes "CODE"
name_text name.Commits = codes "COMMITS"
name_text name.Completed = codes "COMPLETED"
name_text name.Counts = codes "COUNTS"
name_text name.Cpu = codes "CPU"
name_text name.Block = codes "D"
name_text name.Depth = codes "DEPTH"
name_text name.End = codes "END"
name_text name.Flags = codes "FLAGS"
name_text name.Format = codes "FORMAT"
name_text name.General = codes "GR"
name_text name.Halted = codes "HALTED"
name_text name.History = codes "HISTORY"
name_text name.Interrupted = codes "INTERRUPTED"
name_text name.Bytes = codes "M"
name_text name.Mask = codes "MASK"
name_text name.Nothing = codes "NONE"
name_text name.Pending = codes "PENDING"
name_text name.Interruption = codes "PI"
name_text name.Psw = codes "PSW"
name_text name.Rejected = codes "REJECTED"
name_text name.Report = codes "REPORT"
name_text name.Running = codes "RUNNING"
name_text name.Sched = codes "SCHED"
name_text name.Schedule = codes "SCHEDULE"
name_text name.Status = codes "STATUS"
name_text name.Token = codes "TOKEN"
name_text name.Turns = codes "TURNS"
name_text name.Transaction = codes "TX"
name_text name.Ztx = codes "ZTX"

-- 0 to 9 and a to f
abbrev pub is_digit : ℕ → Bool
is_digit byte = (nat_le 48 byte && nat_le byte 57) || (nat_le 97 byte && nat_le byte 102)

-- so many hexadecimal digits
pub record AreDigits (count : ℕ) (text : List ℕ) : Type 0 where
  pub size : length text ≡ count
  pub digits : EachIndex text (λ k. is_digit (slice_index text k) ≡ true)

-- a number of 64 bits in decimal that is not above a limit
pub record IsNumber (limit : ℕ) (text : List ℕ) : Type 0 where
  pub number : ℕ
  pub fits : number < 2 ^ 64
  pub within : number ≤ limit
  pub spelled : text ≡ decimal number

-- the number of a CPU behind an X
pub record IsExternal (last : ℕ) (text : List ℕ) : Type 0 where
  pub rest : List ℕ
  pub behind : text ≡ 88 ∷ rest
  pub cpu : IsNumber last rest

-- the number of a CPU that is not above the last, behind an X where the event comes from outside
abbrev pub IsEvent : ℕ → List ℕ → Type 0
IsEvent last text = IsNumber last text ⊎ IsExternal last text

abbrev pub IsWord : Word → List ℕ → Type 0
IsWord (Fixed name) text = text ≡ name_text name
IsWord (AtMost limit) text = IsNumber limit text
IsWord (Digits count) text = AreDigits count text
IsWord (Event last) text = IsEvent last text
