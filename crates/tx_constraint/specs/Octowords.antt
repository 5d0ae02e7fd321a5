-- The octowords of operands, each once, in ascending order.
use Rattle.std.specs.Prelude.{ℕ, List}
use Rattle.std.specs.List.{flat_map, fold}
use Rattle.z_regs.specs.Rising.{with_number}
use Rattle.z_regs.specs.declared.ranges.Range.{Range}
use Rattle.tx_constraint.specs.Bytes.{pieces}

-- the octowords of operands beside those found so far
unfoldable pub with_octowords : List ℕ → List Range → List ℕ
with_octowords found ranges = fold with_number found (flat_map (pieces 32) ranges)
