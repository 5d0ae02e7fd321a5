-- So far all octowords are below.
use Rattle.std.proofs.Common.{◌≡◌, ◌+◌}
use Rattle.std.specs.Prelude.{drop}
use Rattle.z_regs.specs.Rising.{numbers_below}
use Rattle.tx_constraint.proofs.octowords.place.Given as goal

abbrev pub invariant-loop-at : goal.invariant-loop-at
invariant-loop-at l = numbers_below l.octowords l.octoword ≡ numbers_below (drop l.at l.octowords) l.octoword + l.at
