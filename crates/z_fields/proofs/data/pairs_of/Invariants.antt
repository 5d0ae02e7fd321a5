use Rattle.std.proofs.Common.{◌≡◌, length}
use Rattle.z_fields.specs.Data.{pairs_of, prepend}
use Rattle.z_fields.proofs.data.pairs_of.Given as goal

abbrev pub invariant-loop-rest : goal.invariant-loop-rest
invariant-loop-rest l = prepend l.bytes.items (pairs_of l.rest) ≡ pairs_of l.text

abbrev pub decreases-loop-rest : goal.decreases-loop-rest
decreases-loop-rest l = length l.rest
