use Rattle.std.proofs.Common.{◌≡◌, ◌≤◌, ◌+◌, length}
use Rattle.z_fields.specs.Pieces.{pieces_by}
use Rattle.z_fields.proofs.lines.count_pieces.Given as goal

-- Those that are counted and those that follow are all, and each has a byte at least.
abbrev pub invariant-loop-rest : goal.invariant-loop-rest
invariant-loop-rest l = record {
  all : l.count + length (pieces_by l.stop l.rest) ≡ length (pieces_by l.stop l.text);
  within : l.count + length l.rest ≤ length l.text;
}

abbrev pub decreases-loop-rest : goal.decreases-loop-rest
decreases-loop-rest l = length l.rest
