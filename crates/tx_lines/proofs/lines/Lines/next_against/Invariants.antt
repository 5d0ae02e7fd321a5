-- Nobody before the place stands against the request.
use Rattle.std.proofs.Common.{◌≡◌, ◌≤◌, ◌-◌}
use Rattle.tx_lines.specs.Owned.{holders_in}
use Rattle.tx_lines.specs.Next.{passing_from, stands_against}
use Rattle.tx_lines.proofs.lines.Lines.next_against.Given as goal

abbrev pub invariant-loop-other : goal.invariant-loop-other
invariant-loop-other l =
    (passing_from (stands_against (holders_in l.self) l.cpu l.need.line l.need.mode) l.self.cpus l.from
    ≡ passing_from (stands_against (holders_in l.self) l.cpu l.need.line l.need.mode) l.self.cpus l.at)
    × (l.at ≤ l.self.cpus)

abbrev pub decreases-loop-other : goal.decreases-loop-other
decreases-loop-other l = l.self.cpus - l.at
