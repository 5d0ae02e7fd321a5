use Rattle.std.proofs.Common.{◌∙◌, sym}
use Rattle.std.proofs.lemmas.Result.{on_ok_weaker}
use Rattle.z_deck.proofs.Written.{zero_piece, some_piece}
use Rattle.z_deck.proofs.writing.add_piece.Goals as goal

pub returns-then-is_zero : goal.returns-then-is_zero
returns-then-is_zero c = zero_piece c.args.deck.now.items c.args.storage.now c.piece_at-piece.result.now c.args.i
    c.piece_at-piece.ensures.is (sym c.is_zero.ensures ∙ c.if-is_zero.true)

pub returns : goal.returns
returns c = on_ok_weaker c.add_text.result (λ e. e
    ∙ some_piece c.args.deck.now.items c.args.storage.now c.piece_at-piece.result.now c.args.i
    c.piece_at-piece.ensures.is (sym c.is_zero.ensures ∙ c.if-is_zero.false)) c.add_text.ensures
