-- The lines below the next one are given.
use Rattle.std.proofs.Common.{◌-◌}
use Rattle.tx_lines.specs.Lent.{HasLines}
use Rattle.tx_lines.specs.Owned.{holders_in, storage_in}
use Rattle.tx_lines.proofs.Lent.{under}
use Rattle.tx_lines.proofs.lines.Lines.lend.Given as goal

abbrev pub invariant-loop-line : goal.invariant-loop-line
invariant-loop-line l =
    record { has : HasLines (under l.from (holders_in l.self l.cpu)) (storage_in l.self) l.initial.run l.run }

abbrev pub decreases-loop-line : goal.decreases-loop-line
decreases-loop-line l = 4096 - l.from
