-- The lines of the ranges so far, and room for those of the others.
use Rattle.std.proofs.Common.{◌≡◌, ◌≤◌, ◌*◌, [], length, take}
use Rattle.std.specs.List.{flat_map}
use Rattle.tx_meaning.specs.Needs.{lines_of}
use Rattle.tx_needs.specs.Needs.{with_numbers}
use Rattle.tx_needs.proofs.needs.lines_in.Given as goal

abbrev pub invariant-loop-i : goal.invariant-loop-i
invariant-loop-i l = (l.lines.items ≡ with_numbers [] (flat_map lines_of (take l.i l.ranges))) × (length
    l.lines.items ≤ 2 * l.i)
