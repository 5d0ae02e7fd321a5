-- The octowords before are below, and the one at the place is not.
use Rattle.z_regs.proofs.Rising.{goes_on, stops, ends}
use Rattle.tx_constraint.proofs.octowords.place.Goals as goal

pub returns-then-other-octoword-clause-value : goal.returns-then-other-octoword-clause-value
returns-then-other-octoword-clause-value c =
    stops c.args.octowords.now c.args.octoword c.loop-at.at c.loop-at-test.true c.if-other-octoword.true
    c.loop-at.invariant

pub loop-at-preserved : goal.loop-at-preserved
loop-at-preserved c =
    goes_on c.args.octowords.now c.args.octoword c.loop-at.at c.loop-at-test.true c.if-other-octoword.false
    c.loop-at.invariant

pub returns-clause-value : goal.returns-clause-value
returns-clause-value c =
    ends c.args.octowords.now c.args.octoword c.loop-at.at c.loop-at-test.false c.loop-at.auto.at-end
    c.loop-at.invariant
