-- What is due to a listing with a report behind it: the report is judged by the history that it tells.
use Rattle.std.specs.Prelude.{◌≡◌, ℕ, ◌<◌, ◌≤◌, ◌⊎◌, List, ◌++◌, Result, Ok, Err, length, codes}
use Rattle.std.specs.Fmt.{decimal}
use Rattle.input_parts.specs.Parts.{IsParted, Pieces}
use Rattle.tx_check.specs.Answers.{IsDue}
use Rattle.tx_check.specs.Sound.{IsSound}
use Rattle.tx_check.specs.declared.checking.CheckFault.{CheckFault}
use Rattle.tx_check.specs.declared.checking.CheckFault.TheVariants.{Memory, Form, Entry, State}
use Rattle.tx_journal.specs.Content.{Content}
use Rattle.z_assemble.specs.Whole.{Stands}
use Rattle.z_assemble.specs.Words.{fault_line}
use Rattle.listing_answers.specs.Due.{IsRefusal, long_fault}

-- the line with which a report begins
abbrev pub report_mark : List ℕ
report_mark = codes "ZTX REPORT"

-- how many entries the history of a report has that is accepted
abbrev pub checked_line : ℕ → List ℕ
checked_line entries = codes "CHECKED " ++ (decimal entries ++ codes "\n")

-- at which line or entry a report is refused
abbrev pub refused_line : List ℕ → ℕ → List ℕ
refused_line place number =
    codes "ztx: report refused: " ++ (place ++ (codes " " ++ (decimal number ++ codes "\n")))

-- with which status and text it is said of a report that it is accepted, or where it is refused; want of memory says
-- nothing of a report
abbrev pub Says : Result ℕ CheckFault → ℕ → List ℕ → Type 0
Says (Ok entries) status out = (status ≡ 0) × (out ≡ checked_line entries)
Says (Err Memory) status out = ⊥
Says (Err (Form line)) status out = (status ≡ 7) × (out ≡ refused_line (codes "form line") line)
Says (Err (Entry entry)) status out = (status ≡ 7) × (out ≡ refused_line (codes "entry") entry)
Says (Err (State line)) status out = (status ≡ 7) × (out ≡ refused_line (codes "state line") line)

-- what is answered where a report is sound
abbrev pub IsSoundWhere : Content → List ℕ → Result ℕ CheckFault → Type 0
IsSoundWhere image report (Ok entries) = IsSound image report entries
IsSoundWhere image report (Err fault) = Unit {0}

-- what is due of a report by the listing's image, said. A report that is accepted is sound
pub record IsVerdict (listing report : List ℕ) (status : ℕ) (out : List ℕ) : Type 0 where
  pub image : Content
  pub stands : Stands listing image
  pub answer : Result ℕ CheckFault
  pub is_due : IsDue image report answer
  pub sound : IsSoundWhere image report answer
  pub says : Says answer status out

-- the input has too many bytes: 5, and the line of that fault
pub record IsLongCheck (input : List ℕ) (status : ℕ) (out : List ℕ) : Type 0 where
  pub long : 134217728 < length input
  pub status_is : status ≡ 5
  pub out_is : out ≡ fault_line long_fault

-- ---- due to an input

-- to a listing and a report: the listing is looked at first
abbrev pub IsDueToReport : List ℕ → List ℕ → ℕ → List ℕ → Type 0
IsDueToReport listing report status out =
    IsRefusal listing status out ⊎ IsVerdict listing report status out

-- to an input that has not too many bytes: the report begins with the first line that is the mark; without it there is
-- none, and an empty one is judged
pub record IsCheck (input : List ℕ) (status : ℕ) (out : List ℕ) : Type 0 where
  pub short : length input ≤ 134217728
  pub pieces : Pieces
  pub parted : IsParted report_mark input pieces
  pub is_due : IsDueToReport pieces.listing pieces.marked status out

abbrev pub IsDueToCheck : List ℕ → ℕ → List ℕ → Type 0
IsDueToCheck input status out = IsLongCheck input status out ⊎ IsCheck input status out
