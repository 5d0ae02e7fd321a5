-- One answer is due to the command that writes and reads decks, and only one.
use Rattle.std.proofs.Common.{ℕ, ◌⊎◌, List, sym, ap, ap₂, ◌∙◌, inl, inr, refl}
use Rattle.tx_journal.specs.Content.{Content}
use Rattle.z_assemble.specs.Whole.{Stands, FirstFault}
use Rattle.z_assemble.specs.Words.{fault_line}
use Rattle.z_assemble.specs.declared.fault.ListingFault.{ListingFault}
use Rattle.z_assemble.proofs.Says.{one_holds, both_fail, same_image}
use Rattle.z_deck.specs.Listing.{listing_of}
use Rattle.z_deck.specs.Ways.{HasDeck, HasFault}
use Rattle.z_deck.specs.Words.{number_of}
use Rattle.z_deck.specs.Words as words
use Rattle.z_deck.specs.Writing.{deck_of_image}
use Rattle.z_deck.specs.declared.fault.Kind.{Kind}
use Rattle.z_deck.proofs.One as deck
use Rattle.listing_answers.specs.Decks.{IsWrittenDeck, IsDeckRefusal, IsDeckListing, IsDueToDeck}
use Rattle.listing_answers.specs.Decks.{IsDueToReadDeck}
use Rattle.ztx_answers.specs.One.{IsSome, IsOnly}
use Rattle.ztx_answers.proofs.Answered.{same_refusal, refusal}

-- ---- only one

same_written : (input : List ℕ) → IsOnly (IsWrittenDeck input)
same_written input s t xs ys r q =
    let images = same_image input r.image q.image r.stands q.stands in
    record {
      statuses = r.status_is ∙ sym q.status_is;
      texts = r.text_is ∙ ap deck_of_image images ∙ sym q.text_is;
    }

pub one_written : (input : List ℕ) → IsOnly (IsDueToDeck input)
one_written input s t xs ys (inl r) (inl q) = same_refusal input s t xs ys r q
one_written input s t xs ys (inl r) (inr q) = absurd (both_fail input q.image r.fault q.stands r.first)
one_written input s t xs ys (inr r) (inl q) = absurd (both_fail input r.image q.fault r.stands q.first)
one_written input s t xs ys (inr r) (inr q) = same_written input s t xs ys r q

module _ (origin : ℕ) (input : List ℕ) where
  same_card : IsOnly (IsDeckRefusal origin input)
  same_card s t xs ys r q =
      let faults = deck.one_fault origin input r.number q.number r.kind q.kind r.first q.first in
      record {
        statuses = r.status_is ∙ sym q.status_is;
        texts = r.text_is
            ∙ ap₂ (λ (n : ℕ) (k : Kind). words.fault_line n (number_of k)) faults.0 faults.1 ∙ sym q.text_is;
      }

  same_listing : IsOnly (IsDeckListing origin input)
  same_listing s t xs ys r q =
      let decks = deck.one_deck origin input r.storage q.storage r.entry q.entry r.deck q.deck in
      record {
        statuses = r.status_is ∙ sym q.status_is;
        texts = r.text_is ∙ ap₂ listing_of decks.0 decks.1 ∙ sym q.text_is;
      }

  pub one_read : IsOnly (IsDueToReadDeck origin input)
  one_read s t xs ys (inl r) (inl q) = same_card s t xs ys r q
  one_read s t xs ys (inl r) (inr q) =
      absurd (deck.never_both origin input q.storage q.entry r.number r.kind q.deck r.first)
  one_read s t xs ys (inr r) (inl q) =
      absurd (deck.never_both origin input r.storage r.entry q.number q.kind r.deck q.first)
  one_read s t xs ys (inr r) (inr q) = same_listing s t xs ys r q

-- ---- one there is

pub written : (input : List ℕ) → IsSome (IsDueToDeck input)
written input = by (one_holds input)
  where
    by : ((image : Content) × Stands input image) ⊎ ((f : ListingFault) × FirstFault input f)
        → IsSome (IsDueToDeck input)
    by (inl (image, s)) = record {
      status = 0;
      text = deck_of_image image;
      is_due = inr (record { image = image; stands = s; status_is = refl; text_is = refl });
    }
    by (inr (f, first)) = record {
      status = 5;
      text = fault_line f;
      is_due = inl (refusal input f first);
    }

pub read : (origin : ℕ) (input : List ℕ) → IsSome (IsDueToReadDeck origin input)
read origin input = by (deck.one_holds input origin)
  where
    by : HasDeck input origin ⊎ HasFault input origin → IsSome (IsDueToReadDeck origin input)
    by (inl d) = record {
      status = 0;
      text = listing_of d.storage d.entry;
      is_due = inr (record {
        storage = d.storage;
        entry = d.entry;
        deck = d.deck;
        status_is = refl;
        text_is = refl;
      });
    }
    by (inr f) = record {
      status = 5;
      text = words.fault_line f.number (number_of f.kind);
      is_due = inl (record {
        number = f.number;
        kind = f.kind;
        first = f.first;
        status_is = refl;
        text_is = refl;
      });
    }
