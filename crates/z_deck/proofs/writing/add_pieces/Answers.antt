use Rattle.std.proofs.Common.{◌≡◌, ◌++◌, ℕ, List, ap, ◌∙◌, arith}
use Rattle.std.specs.List.{concat}
use Rattle.z_deck.specs.Writing.{text_cards, cards_of_piece}
use Rattle.z_deck.proofs.Written.{no_pieces, more_pieces}
use Rattle.z_deck.proofs.writing.add_pieces.Goals as goal

pub loop-i-init : goal.loop-i-init
loop-i-init c = no_pieces c.args.deck.now.items c.args.storage.now

pub loop-i-preserved : goal.loop-i-preserved
loop-i-preserved c = c.in_ok-add_piece.ensures
    ∙ ap (λ (t : List ℕ). t ++ concat (cards_of_piece c.args.storage.now c.loop-i.i)) c.loop-i.invariant
    ∙ more_pieces c.args.deck.now.items c.args.storage.now c.loop-i.i

pub returns : goal.returns
returns c =
    let reached : c.loop-i.i ≡ 18579 = omega arith in
    c.loop-i.invariant ∙ ap (λ n. c.args.deck.now.items ++ concat (text_cards n c.args.storage.now)) reached
