-- What is said of a report behind a listing, as answers that are there.
use Rattle.std.proofs.Common.{◌≡◌, ℕ, ◌<◌, ◌≤◌, List, length, Result, Ok, Err, IfOk, inl, inr}
use Rattle.input_parts.specs.Parts.{IsParted, Pieces}
use Rattle.tx_check.specs.Answers.{IsAccepted, IsRefused}
use Rattle.tx_check.specs.Sound.{IsSound}
use Rattle.tx_check.specs.declared.checking.CheckFault.{CheckFault}
use Rattle.tx_journal.specs.Content.{Content}
use Rattle.z_assemble.specs.Whole.{Stands}
use Rattle.z_assemble.specs.Words.{fault_line}
use Rattle.listing_answers.specs.declared.answer.Answer.{Answer}
use Rattle.run_answers.specs.Checks.{report_mark, checked_line, Says, IsVerdict, IsDueToReport, IsDueToCheck}
use Rattle.listing_answers.specs.Due.{IsRefusal, long_fault}

-- to an input that has not too many bytes, what is due to its pieces
check_is : (input : List ℕ) (p : Pieces) → length input ≤ 134217728 → IsParted report_mark input p → (status : ℕ)
    (out : List ℕ) → IsDueToReport p.listing p.marked status out → IsDueToCheck input status out
check_is input p short parted status out due =
    inr record { short = short; pieces = p; parted = parted; is_due = due }

module _ {E : Type 0} (image : Content) (report : List ℕ) where
  pub accepted : (r : Result Answer E) (entries : ℕ) → IsSound image report entries
      → IsAccepted image report entries → IfOk r (λ a. a.status ≡ 0)
      → IfOk r (λ a. a.text.items ≡ checked_line entries)
      → IfOk r (λ a. (listing : List ℕ) → Stands listing image → IsVerdict listing report a.status a.text.items)
  accepted (Ok a) entries sound is s t = λ listing stands. record {
    image = image;
    stands = stands;
    answer = Ok entries;
    is_due = is;
    sound = sound;
    says = (s, t);
  }
  accepted (Err e) entries sound is s t = tt

  pub refused : (r : Result Answer E) (fault : CheckFault) → IsRefused image report fault
      → IfOk r (λ a. Says (Err fault) a.status a.text.items)
      → IfOk r (λ a. (listing : List ℕ) → Stands listing image → IsVerdict listing report a.status a.text.items)
  refused (Ok a) fault is says = λ listing stands. record {
    image = image;
    stands = stands;
    answer = Err fault;
    is_due = is;
    sound = tt;
    says = says;
  }
  refused (Err e) fault is says = tt

module _ {E : Type 0} (input : List ℕ) (p : Pieces) (short : length input ≤ 134217728)
    (parted : IsParted report_mark input p) where
  pub judged : (r : Result Answer E) (image : Content) → Stands p.listing image
      → IfOk r (λ a. (listing : List ℕ) → Stands listing image → IsVerdict listing p.marked a.status a.text.items)
      → IfOk r (λ a. IsDueToCheck input a.status a.text.items)
  judged (Ok a) image stands verdict =
      check_is input p short parted a.status a.text.items (inr (verdict p.listing stands))
  judged (Err e) image stands verdict = tt

  pub no_listing : (r : Result Answer E) → IfOk r (λ a. IsRefusal p.listing a.status a.text.items)
      → IfOk r (λ a. IsDueToCheck input a.status a.text.items)
  no_listing (Ok a) refusal = check_is input p short parted a.status a.text.items (inl refusal)
  no_listing (Err e) refusal = tt

-- of an input with too many bytes
pub long_check_ok : {E : Type 0} (r : Result Answer E) → IfOk r (λ a. a.status ≡ 5)
    → IfOk r (λ a. a.text.items ≡ fault_line long_fault)
    → IfOk r (λ a. (input : List ℕ) → 134217728 < length input → IsDueToCheck input a.status a.text.items)
long_check_ok (Ok a) s t = λ input long. inl (record { long = long; status_is = s; out_is = t })
long_check_ok (Err e) s t = tt
