-- All bytes lie in the octoword of the first one.
use Rattle.std.proofs.Common.{arith}
use Rattle.tx_constraint.proofs.AtOnce.{one-octoword}
use Rattle.tx_constraint.proofs.octowords.whole_octoword.Goals as goal

pub returns : goal.returns
returns c found =
    one-octoword found c.args.range (omega (arith, c.if-range-eq0.false))
    (omega (arith, c.from.ensures, c.if-range-from-gt-OCTOWORD_SIZE.false))
