use Rattle.std.proofs.Common.{◌≡◌, ◌++◌, map, length}
use Rattle.z_fields.specs.Pieces.{pieces_by}
use Rattle.z_fields.proofs.lines.pieces_by.Given as goal

abbrev pub invariant-loop-rest : goal.invariant-loop-rest
invariant-loop-rest l = map (λ x. x.now) l.pieces.items ++ pieces_by l.stop l.rest ≡ pieces_by l.stop l.text

abbrev pub decreases-loop-rest : goal.decreases-loop-rest
decreases-loop-rest l = length l.rest
