-- The lines of entries that a machine can write: they are lines, and tell all but the origin of an exception.
use Rattle.std.proofs.Common.{◌≡◌, ℕ, ◌<◌, ◌*◌, ◌/◌, true, false, nat_eq, arith, sym, ap, ap₂, ◌∙◌, refl}
use Rattle.std.specs.Prelude.{if◌then◌else◌}
use Rattle.std.proofs.lemmas.Bool.Decides.{nat_tests}
use Rattle.tx_control.specs.declared.causes.Why.{Why}
use Rattle.tx_control.specs.declared.causes.Why.TheVariants.{External, Program, FetchConflict, StoreConflict}
use Rattle.tx_control.specs.declared.causes.Why.TheVariants.{FetchOverflow, StoreOverflow, Restricted}
use Rattle.tx_control.specs.declared.causes.Why.TheVariants.{Filtered, Depth, Starved, Tabort}
use Rattle.tx_control.specs.Causes.{code_number}
use Rattle.tx_journal.specs.declared.entries.Entry.{Entry}
use Rattle.tx_journal.specs.declared.entries.Entry.TheVariants as entry
use Rattle.tx_journal.specs.declared.entries.EntryText.{EntryText}
use Rattle.tx_journal.specs.declared.lines.Detail.{Detail}
use Rattle.tx_journal.specs.declared.lines.Detail.TheVariants.{Nothing, Exception, Line as AtLine}
use Rattle.tx_journal.specs.Lines.{IsLine, IsReason, IsLineAddress, says_nothing, detail_of, reason_of}
use Rattle.tx_journal.specs.Lines.{line_of, entry_text, fields_of, Spells}
use Rattle.tx_journal.specs.Sound.{IsCause, IsSound, by_code, told_cause, told}
use Rattle.tx_journal.proofs.OneLine.{same_line, same_fields}

above_says_nothing : (code : ℕ) → 255 < code → says_nothing code ≡ true
above_says_nothing code above = grind (arith, nat_tests)

line_begins : (line : ℕ) → line < 4096 → IsLineAddress (line * 256)
line_begins line within = record { within = omega arith; boundary = omega arith }

reason_is : (why : Why) → IsCause why → IsReason (reason_of why)
reason_is External sound = record { fits = omega arith; detail = refl }
reason_is (Program e) sound = record { fits = omega arith; detail = (refl, sound) }
reason_is (FetchConflict line) sound = record { fits = omega arith; detail = (refl, line_begins line sound) }
reason_is (StoreConflict line) sound = record { fits = omega arith; detail = (refl, line_begins line sound) }
reason_is FetchOverflow sound = record { fits = omega arith; detail = refl }
reason_is StoreOverflow sound = record { fits = omega arith; detail = refl }
reason_is Restricted sound = record { fits = omega arith; detail = refl }
reason_is (Filtered e) sound = record { fits = omega arith; detail = (refl, sound) }
reason_is Depth sound = record { fits = omega arith; detail = refl }
reason_is Starved sound = record { fits = omega arith; detail = refl }
reason_is (Tabort code) sound = record { fits = sound.1; detail = above_says_nothing code sound.0 }

line_is : (e : Entry) → IsSound e → IsLine (line_of e)
line_is (entry.Step cpu) sound = sound
line_is (entry.Commit cpu count) sound = sound
line_is (entry.Abort cpu count why) sound = (sound.0, sound.1, reason_is why sound.2)
line_is (entry.Tdb cpu) sound = sound
line_is (entry.Interrupt cpu) sound = sound

pub spelled : (e : Entry) → IsSound e → Spells (entry_text e) (fields_of (line_of e))
spelled e sound = record { line = line_of e; sound = line_is e sound; text_is = refl; fields = refl }

pub read_exactly : (e : Entry) (t : EntryText) → IsSound e → Spells (entry_text e) t
    → t ≡ fields_of (line_of e)
read_exactly e t sound spells = same_fields (entry_text e) t (fields_of (line_of e)) spells (spelled e sound)

-- the cause by its code and detail
cause_by : ℕ → Detail → Why
cause_by code Nothing =
    if nat_eq code 2 then External else if nat_eq code 7 then FetchOverflow else if nat_eq code 8 then
    StoreOverflow
    else if nat_eq code 11 then Restricted else if nat_eq code 13 then Depth else if nat_eq code 255 then
    Starved else Tabort code
cause_by code (Exception exception) =
    if nat_eq code 4 then Program (by_code exception) else Filtered (by_code exception)
cause_by code (AtLine address) =
    if nat_eq code 9 then FetchConflict (address / 256) else StoreConflict (address / 256)

other : (code k : ℕ) → k < code → nat_eq code k ≡ false
other code k less = grind (arith, nat_tests)

cause_again : (why : Why) → IsCause why → cause_by (code_number why) (detail_of why) ≡ told_cause why
unfolding cause_by
cause_again External sound = refl
cause_again (Program e) sound = refl
cause_again (FetchConflict line) sound = ap FetchConflict (omega arith)
cause_again (StoreConflict line) sound = ap StoreConflict (omega arith)
cause_again FetchOverflow sound = refl
cause_again StoreOverflow sound = refl
cause_again Restricted sound = refl
cause_again (Filtered e) sound = refl
cause_again Depth sound = refl
cause_again Starved sound = refl
cause_again (Tabort code) sound =
    let above = sound.0 in
    rw (
      other code 2 (omega arith),
      other code 7 (omega arith),
      other code 8 (omega arith),
      other code 11
          (omega arith),
      other code 13 (omega arith),
      other code 255 above,
    ) refl

same_cause : (why also : Why) → IsCause why → IsCause also → code_number why ≡ code_number also
    → detail_of why ≡ detail_of also → told_cause why ≡ told_cause also
same_cause why also sound sound' code detail = sym (cause_again why sound) ∙ ap₂ cause_by code detail
    ∙ cause_again also sound'

same_told : (e f : Entry) → IsSound e → IsSound f → line_of e ≡ line_of f → told e ≡ told f
same_told (entry.Step cpu) (entry.Step cpu') sound also is = ap entry.Step cc
same_told (entry.Commit cpu count) (entry.Commit cpu' count') sound also is = ap₂ entry.Commit (cc) (cc)
same_told (entry.Abort cpu count why) (entry.Abort cpu' count' why') sound also is =
    let cpus : cpu ≡ cpu' = cc in
    let counts : count ≡ count' = cc in
    let reasons : reason_of why ≡ reason_of why' = cc in
    let causes = same_cause why why' sound.2 also.2 (ap (λ r. r.code) reasons) (ap (λ r. r.detail) reasons) in
    λ i. entry.Abort (cpus i) (counts i) (causes i)
same_told (entry.Tdb cpu) (entry.Tdb cpu') sound also is = ap entry.Tdb cc
same_told (entry.Interrupt cpu) (entry.Interrupt cpu') sound also is = ap entry.Interrupt cc
same_told (entry.Step cpu) f sound also is = absurd cc
same_told (entry.Commit cpu count) f sound also is = absurd cc
same_told (entry.Abort cpu count why) f sound also is = absurd cc
same_told (entry.Tdb cpu) f sound also is = absurd cc
same_told (entry.Interrupt cpu) f sound also is = absurd cc

pub told_apart : (e f : Entry) → IsSound e → IsSound f → entry_text e ≡ entry_text f → told e ≡ told f
told_apart e f sound also is =
    same_told e f sound also (same_line (line_of e) (line_of f) (line_is e sound) (line_is f also) is)
