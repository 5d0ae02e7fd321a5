use Rattle.z_deck.specs.Loading.{Loaded}
use Rattle.z_deck.proofs.Loaded.{first_cards}
use Rattle.z_deck.proofs.reading.read_deck.Given as goal

-- the cards so far are loaded
abbrev pub invariant-loop-k : goal.invariant-loop-k
invariant-loop-k l = Loaded l.origin (first_cards l.k l.bytes) l.loading.storage.items l.loading.end
