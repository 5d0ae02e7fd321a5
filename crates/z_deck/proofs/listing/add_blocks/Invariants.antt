use Rattle.std.proofs.Common.{◌≡◌, ◌++◌}
use Rattle.z_deck.specs.Listing.{placing_lines}
use Rattle.z_deck.proofs.listing.add_blocks.Given as goal

-- the lines of the blocks so far stand there
abbrev pub invariant-loop-i : goal.invariant-loop-i
invariant-loop-i l = l.text.items ≡ l.initial.text.items ++ placing_lines l.i l.storage
