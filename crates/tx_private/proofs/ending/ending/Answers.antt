use Rattle.std.proofs.Common.{◌∙◌, ap}
use Rattle.std.specs.FinSet.{items}
use Rattle.tx_serial.specs.Fate.{cause_in}
use Rattle.tx_private.specs.declared.attempt.Mark.TheVariants.{Open, Committed, Overflowed, Missing}
use Rattle.tx_private.proofs.Ended.{ending_open, ending_committed, ending_missing, ending_overflowed}
use Rattle.tx_private.proofs.Ended.{is_there_still}
use Rattle.tx_private.proofs.Ready.{is_there, marked_as}
use Rattle.tx_private.proofs.ending.ending.Goals as goal

pub returns-in-Open-clause-value : goal.returns-in-Open-clause-value
returns-in-Open-clause-value c = λ base p r.
    let is = marked_as base c.args.a.now p Open r c.in-Open.is in
    c.cause_of_next.ensures.value base p (r.shows (is_there p.mark is))
    ∙ ending_open (items c.args.guard.now) p is

pub returns-in-Overflowed-clause-value : goal.returns-in-Overflowed-clause-value
returns-in-Overflowed-clause-value c = λ base p r.
    let is = marked_as base c.args.a.now p Overflowed r c.in-Overflowed.is in
    ending_overflowed base (items c.args.guard.now) c.args.a.now p c.cause_in.result
    (r.shows (is_there_still p.mark is)) is
    (c.cause_in.ensures ∙ ap (cause_in c.args.a.now.nest) c.exception.ensures)

pub returns-in-Committed-clause-value : goal.returns-in-Committed-clause-value
returns-in-Committed-clause-value c = λ base p r.
    ending_committed (items c.args.guard.now) p (marked_as base c.args.a.now p Committed r c.in-Committed.is)

pub returns-in-Missing-clause-value : goal.returns-in-Missing-clause-value
returns-in-Missing-clause-value c = λ base p r.
    ending_missing (items c.args.guard.now) p (marked_as base c.args.a.now p Missing r c.in-Missing.is)
