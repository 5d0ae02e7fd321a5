-- What is due to an input that is too long, whatever is asked of it: the line of that fault.
use Rattle.std.proofs.Common.{◌≡◌, ℕ, ◌<◌, List, length, IfOk, Result, inl, refl, subst, sym}
use Rattle.z_assemble.specs.Words.{fault_line}
use Rattle.listing_answers.specs.declared.answer.Answer.{Answer}
use Rattle.listing_answers.specs.Decks.{IsDueToDeck, long_deck_line}
use Rattle.listing_answers.specs.Due.{IsDueToList, long_fault}
use Rattle.listing_answers.proofs.Long.{long_ok, long_deck_ok}
use Rattle.run_answers.specs.Reports.{IsDueToRun}
use Rattle.run_answers.proofs.Checks.{long_check_ok}
use Rattle.ztx_answers.specs.declared.requests.Request.{Request}
use Rattle.ztx_answers.specs.declared.requests.Request.TheVariants as request
use Rattle.ztx_answers.specs.Heats.{IsDueToHeat}
use Rattle.ztx_answers.specs.Requests.{IsDue, most_of}
use Rattle.ztx_answers.proofs.Steps.{long_step_ok}

-- the line of a listing's fault
module _ {E : Type 0} (r : Result Answer E) (s : IfOk r (λ a. a.status ≡ 5))
    (t : IfOk r (λ a. a.text.items ≡ fault_line long_fault)) where
  pub long_due : (q : Request) → ((origin : ℕ) → q ≡ request.ReadDeck origin → ⊥)
      → IfOk r (λ a. (input : List ℕ) → most_of q < length input → IsDue q input a.status a.text.items)
  long_due request.List no_deck =
      long_ok r IsDueToList (λ input status text refused. inl refused) s t
  long_due (request.Run turns tick seed) no_deck =
      long_ok r (IsDueToRun turns tick seed) (λ input status text refused. inl refused) s t
  long_due request.Deck no_deck =
      long_ok r IsDueToDeck (λ input status text refused. inl refused) s t
  long_due (request.ReadDeck origin) no_deck = absurd (no_deck origin refl)
  long_due (request.Step turns tick seed) no_deck = long_step_ok turns tick seed r s t
  long_due (request.Heat turns tick seed) no_deck =
      long_ok r (IsDueToHeat turns tick seed) (λ input status text refused. inl refused) s t
  long_due request.Check no_deck = long_check_ok r s t

-- the line of a deck's fault
module _ {E : Type 0} (origin : ℕ) where
  pub long_deck_due : (r : Result Answer E) → IfOk r (λ a. a.status ≡ 5)
      → IfOk r (λ a. a.text.items ≡ long_deck_line) → (q : Request) → q ≡ request.ReadDeck origin
      → IfOk r (λ a. (input : List ℕ) → most_of q < length input → IsDue q input a.status a.text.items)
  long_deck_due r s t q is = subst (λ (q : Request). IfOk r (λ a. (input : List ℕ) → most_of q < length input
      → IsDue q input a.status a.text.items)) (sym is) (long_deck_ok origin r s t)
