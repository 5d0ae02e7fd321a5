-- So far all lines are below.
use Rattle.std.proofs.Common.{◌≡◌, ◌+◌}
use Rattle.std.specs.Prelude.{drop}
use Rattle.z_regs.specs.Rising.{numbers_below}
use Rattle.tx_needs.proofs.needs.place.Given as goal

abbrev pub invariant-loop-at : goal.invariant-loop-at
invariant-loop-at l = numbers_below l.lines l.line ≡ numbers_below (drop l.at l.lines) l.line + l.at
