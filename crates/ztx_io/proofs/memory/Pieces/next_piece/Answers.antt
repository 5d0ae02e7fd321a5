use Rattle.std.proofs.Common.{rules, ap, ◌∙◌, take, drop, length, ◌-◌}
use Rattle.std.proofs.lemmas.List.{take_rest}
use Rattle.ztx_io.proofs.InPieces.{left_moves}
use Rattle.ztx_io.proofs.memory.Pieces.next_piece.Goals as goal

pub returns-clause-given : goal.returns-clause-given
returns-clause-given c =
    let given = c.args.self.now.given in
    let bytes = c.args.self.now.bytes.items in
    let left = ap (λ l. take (length l - given) (drop given l)) c.as_slice.ensures.value
    ∙ take_rest bytes given in
    left_moves bytes c.copy_from_slice.new.self _ given c.min-n.result (search (rules, left))
    (search (rules, left, c.copy_from_slice.ensures.after))
