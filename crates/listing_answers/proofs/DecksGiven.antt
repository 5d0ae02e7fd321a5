-- Decks and their listings that are there, unless memory ran out.
use Rattle.std.proofs.Common.{◌≡◌, ℕ, List, Option, IfOk, Result, inl, inr, ap, ◌∙◌}
use Rattle.tx_journal.specs.Content.{Content}
use Rattle.z_assemble.specs.Whole.{Stands}
use Rattle.z_deck.specs.Listing.{listing_of}
use Rattle.z_deck.specs.Reading.{IsDeck}
use Rattle.z_deck.specs.Said.{IsFault}
use Rattle.z_deck.specs.Words as words
use Rattle.z_deck.specs.Writing.{deck_of_image}
use Rattle.z_deck.specs.declared.fault.DeckFault.TheVariants.{Card}
use Rattle.listing_answers.specs.declared.answer.Answer.{Answer}
use Rattle.listing_answers.specs.Decks.{IsDueToDeck, IsDueToReadDeck}
use Rattle.listing_answers.proofs.Given.{both}

module _ {E : Type 0} (input : List ℕ) (r : Result Answer E) where
  pub deck_written : (image : Content) → Stands input image → IfOk r (λ a. a.status ≡ 0)
      → IfOk r (λ a. a.text.items ≡ deck_of_image image)
      → IfOk r (λ a. IsDueToDeck input a.status a.text.items)
  deck_written image stands = both r
      (λ a s t. inr (record { image = image; stands = stands; status_is = s; text_is = t }))

  pub deck_listed : (origin : ℕ) (storage : List ℕ) (entry : Option ℕ) → IsDeck input origin storage entry
      → IfOk r (λ a. a.status ≡ 0) → IfOk r (λ a. a.text.items ≡ listing_of storage entry)
      → IfOk r (λ a. IsDueToReadDeck origin input a.status a.text.items)
  deck_listed origin storage entry deck = both r (λ a s t. inr (record {
    storage = storage;
    entry = entry;
    deck = deck;
    status_is = s;
    text_is = t;
  }))

  pub card_refused : (origin number kind : ℕ) → IsFault input origin (Card number kind)
      → IfOk r (λ a. a.status ≡ 5) → IfOk r (λ a. a.text.items ≡ words.fault_line number kind)
      → IfOk r (λ a. IsDueToReadDeck origin input a.status a.text.items)
  card_refused origin number kind fault = both r (λ a s t. inl (record {
    number = number;
    kind = fault.0;
    first = fault.1;
    status_is = s;
    text_is = t ∙ ap (words.fault_line number) fault.2;
  }))
