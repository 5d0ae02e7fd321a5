-- The CPU may give up no line before the place.
use Rattle.std.proofs.Common.{◌≡◌, ◌≤◌, ◌-◌}
use Rattle.line_table.specs.Sizes.{storage_lines}
use Rattle.tx_footprint.specs.Touched.{sets_of}
use Rattle.tx_lines.specs.Owned.{holders_in}
use Rattle.tx_lines.specs.Next.{passing_from}
use Rattle.tx_lines.specs.Spare.{may_give_up}
use Rattle.tx_lines.proofs.lines.Lines.spare.Given as goal

abbrev pub invariant-loop-line : goal.invariant-loop-line
invariant-loop-line l =
    (passing_from (may_give_up (holders_in l.self) l.cpu (sets_of l.footprint) l.needed) storage_lines 0
    ≡ passing_from (may_give_up (holders_in l.self) l.cpu (sets_of l.footprint) l.needed) storage_lines l.at)
    × (l.at ≤ storage_lines)

abbrev pub decreases-loop-line : goal.decreases-loop-line
decreases-loop-line l = storage_lines - l.at
