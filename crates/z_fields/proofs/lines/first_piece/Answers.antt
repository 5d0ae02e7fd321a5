use Rattle.std.proofs.Common.{◌∷◌, List, ℕ, drop, take, ap, sym, ◌∙◌}
use Rattle.z_fields.specs.Pieces.{pieces_by, first_size}
use Rattle.z_fields.proofs.Pieces.{pieces_first}
use Rattle.z_fields.proofs.lines.first_piece.Goals as goal

pub returns-clause-pieces : goal.returns-clause-pieces
returns-clause-pieces c =
    let text : List ℕ = c.args.text.now in
    let size = c.first_size.ensures.is in
    let piece = c.split_at.ensures.front ∙ ap (λ n. take n text) size in
    let behind = c.split_at.ensures.back ∙ ap (λ n. drop n text) size in
    pieces_first c.args.stop text c.requires
    ∙ (ap (λ p. p ∷ pieces_by c.args.stop (drop (first_size c.args.stop text) text)) (sym piece)
    ∙ ap (λ b. c.split_at.result.0.now ∷ pieces_by c.args.stop b) (sym behind))
