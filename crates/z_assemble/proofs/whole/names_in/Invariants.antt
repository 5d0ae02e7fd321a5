use Rattle.std.proofs.Common.{◌+◌, ◌≤◌, length}
use Rattle.z_fields.specs.Pieces.{pieces_by}
use Rattle.z_assemble.proofs.whole.names_in.Given as goal

abbrev pub invariant-loop-rest : goal.invariant-loop-rest
invariant-loop-rest l =
    length l.names.items + length (pieces_by 10 l.rest) ≤ length (pieces_by 10 l.text)

abbrev pub decreases-loop-rest : goal.decreases-loop-rest
decreases-loop-rest l = length l.rest
