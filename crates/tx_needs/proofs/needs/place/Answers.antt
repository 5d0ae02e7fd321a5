-- The lines before are below, and the one at the place is not.
use Rattle.z_regs.proofs.Rising.{goes_on, stops, ends}
use Rattle.tx_needs.proofs.needs.place.Goals as goal

pub returns-then-other-line-clause-value : goal.returns-then-other-line-clause-value
returns-then-other-line-clause-value c =
    stops c.args.lines.now c.args.line c.loop-at.at c.loop-at-test.true c.if-other-line.true
    c.loop-at.invariant

pub loop-at-preserved : goal.loop-at-preserved
loop-at-preserved c =
    goes_on c.args.lines.now c.args.line c.loop-at.at c.loop-at-test.true c.if-other-line.false
    c.loop-at.invariant

pub returns-clause-value : goal.returns-clause-value
returns-clause-value c =
    ends c.args.lines.now c.args.line c.loop-at.at c.loop-at-test.false c.loop-at.auto.at-end
    c.loop-at.invariant
