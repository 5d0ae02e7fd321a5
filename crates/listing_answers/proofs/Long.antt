-- What is due to an input that is too long: the line of that fault.
use Rattle.std.proofs.Common.{◌≡◌, ℕ, ◌<◌, List, length, IfOk, Result, Ok, Err, inl, refl}
use Rattle.std.proofs.lemmas.Bool.{lt-ltb}
use Rattle.z_assemble.specs.Whole.{FirstFault}
use Rattle.z_assemble.specs.Words.{fault_line}
use Rattle.z_deck.specs.Reading.{FirstFault as CardFault}
use Rattle.z_deck.specs.declared.fault.Kind.TheVariants as kinds
use Rattle.listing_answers.specs.declared.answer.Answer.{Answer}
use Rattle.listing_answers.specs.Decks.{IsDeckRefusal, IsDueToReadDeck, long_deck_line}
use Rattle.listing_answers.specs.Due.{IsRefusal, long_fault}

-- a text with too many bytes for a listing has that fault first
pub long_listing : (input : List ℕ) (status : ℕ) (text : List ℕ) → 16777216 < length input → status ≡ 5
    → text ≡ fault_line long_fault → IsRefusal input status text
long_listing input status text long status_is text_is = record {
  fault = long_fault;
  first = FirstFault.too_long (lt-ltb 16777216 (length input) long) refl;
  status_is = status_is;
  text_is = text_is;
}

-- so the line of that fault is due to it, whatever is asked of a listing
pub long_ok : {E : Type 0} (r : Result Answer E) (Due : List ℕ → ℕ → List ℕ → Type 0)
    → ((input : List ℕ) (status : ℕ) (text : List ℕ) → IsRefusal input status text → Due input status text)
    → IfOk r (λ a. a.status ≡ 5) → IfOk r (λ a. a.text.items ≡ fault_line long_fault)
    → IfOk r (λ a. (input : List ℕ) → 16777216 < length input → Due input a.status a.text.items)
long_ok (Ok a) Due fits s t = λ input long.
    fits input a.status a.text.items (long_listing input a.status a.text.items long s t)
long_ok (Err e) Due fits s t = tt

-- bytes that are too many for a deck have that fault first
long_deck : (origin : ℕ) (input : List ℕ) (status : ℕ) (text : List ℕ) → 16777216 < length input
    → status ≡ 5 → text ≡ long_deck_line → IsDeckRefusal origin input status text
long_deck origin input status text long status_is text_is = record {
  number = 209716;
  kind = kinds.ShortCard;
  first = CardFault.too_long long refl refl;
  status_is = status_is;
  text_is = text_is;
}

-- so its line is due to them, where a deck is to be read
pub long_deck_ok : {E : Type 0} (origin : ℕ) (r : Result Answer E) → IfOk r (λ a. a.status ≡ 5)
    → IfOk r (λ a. a.text.items ≡ long_deck_line)
    → IfOk r (λ a. (input : List ℕ) → 16777216 < length input
    → IsDueToReadDeck origin input a.status a.text.items)
long_deck_ok origin (Ok a) s t = λ input long. inl (long_deck origin input a.status a.text.items long s t)
long_deck_ok origin (Err e) s t = tt
