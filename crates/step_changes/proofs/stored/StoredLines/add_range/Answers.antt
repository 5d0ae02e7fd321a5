-- The lines of the addresses of a range are those between its first and its last.
use Rattle.std.proofs.Common.{◌≡◌, ◌+◌, ◌/◌, ◌<◌, ◌≤◌, arith}
use Rattle.std.proofs.lemmas.Bool.{and_parts}
use Rattle.tx_footprint.specs.Places.{has_place}
use Rattle.tx_footprint.proofs.Spans.{address_of}
use Rattle.step_changes.proofs.stored.StoredLines.add_range.Goals as goal

pub returns-clause-there : goal.returns-clause-there
returns-clause-there c n is =
    let range = c.args.range in
    let at = address_of 256 range n (and_parts range.store (has_place 256 range n) is).1 in
    let from : range.first ≤ at.0 = at.1 in
    let below : at.0 < range.first + range.length = at.2 in
    let here : at.0 / 256 ≡ n = at.3 in
    c.loop-line.invariant.there n (omega arith) (omega arith)
