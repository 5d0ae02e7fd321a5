use Rattle.std.proofs.Common.{◌≡◌, ◌++◌}
use Rattle.std.specs.List.{concat}
use Rattle.z_deck.specs.Writing.{text_cards}
use Rattle.z_deck.proofs.writing.add_pieces.Given as goal

-- the cards of the pieces so far stand there
abbrev pub invariant-loop-i : goal.invariant-loop-i
invariant-loop-i l = l.deck.items ≡ l.initial.deck.items ++ concat (text_cards l.i l.storage)
