-- Bytes that are a deck, and bytes that are none.
use Rattle.std.specs.Prelude.{ℕ, List, Option}
use Rattle.z_deck.specs.Reading.{IsDeck, FirstFault}
use Rattle.z_deck.specs.declared.fault.Kind.{Kind}

-- the bytes are a deck for this origin
pub record HasDeck (bytes : List ℕ) (origin : ℕ) : Type 0 where
  pub storage : List ℕ
  pub entry : Option ℕ
  pub deck : IsDeck bytes origin storage entry

-- the bytes have a first fault
pub record HasFault (bytes : List ℕ) (origin : ℕ) : Type 0 where
  pub number : ℕ
  pub kind : Kind
  pub first : FirstFault bytes origin number kind
