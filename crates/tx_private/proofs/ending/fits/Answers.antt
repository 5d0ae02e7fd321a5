use Rattle.std.proofs.Common.{◌∙◌, ap}
use Rattle.std.specs.Prelude.{◌&&◌}
use Rattle.std.specs.FinSet.{items}
use Rattle.tx_serial.specs.Ending.{fits, ending, is_cause, is_open, comes_from_outside}
use Rattle.tx_private.proofs.Ended.{either_then, either_else}
use Rattle.tx_private.proofs.ending.fits.Goals as goal

pub returns-then-is_this-clause-value : goal.returns-then-is_this-clause-value
unfolding fits
returns-then-is_this-clause-value c = λ base p r.
    let text = items c.args.guard.now in
    either_then c.is_this.result (is_cause (ending text p) c.args.why)
    (is_open p.mark && comes_from_outside text p c.args.why)
    (c.is_this.ensures ∙ ap (λ o. is_cause o c.args.why) (c.ending-own.ensures.value base p r))
    c.if-is_this.true

pub returns-else-is_this-clause-value : goal.returns-else-is_this-clause-value
unfolding fits
returns-else-is_this-clause-value c = λ base p r.
    let text = items c.args.guard.now in
    either_else c.may_come_from_outside-from_outside.result c.is_this.result (is_cause (ending text p)
    c.args.why)
    (is_open p.mark && comes_from_outside text p c.args.why)
    (c.is_this.ensures ∙ ap (λ o. is_cause o c.args.why) (c.ending-own.ensures.value base p r))
    c.if-is_this.false
    (c.may_come_from_outside-from_outside.ensures base p r)
