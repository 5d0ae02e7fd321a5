use Rattle.std.proofs.Common.{◌∙◌, ap, sym, true}
use Rattle.std.specs.FinSet.{items}
use Rattle.tx_control.specs.Nesting.{is_constrained}
use Rattle.tx_serial.specs.Attempt.{footprint}
use Rattle.tx_serial.specs.Ending.{comes_from_outside, has_operands}
use Rattle.tx_serial.specs.Fate.{fate}
use Rattle.tx_private.proofs.Ended.{stored_by, fetched_by, comes_fate, fetch_then, fetch_else, starved_then}
use Rattle.tx_private.proofs.Tested.{same_limit}
use Rattle.tx_private.proofs.ending.comes.Goals as goal

pub returns-in-StoreConflict : goal.returns-in-StoreConflict
returns-in-StoreConflict c = λ base p shows.
    c.stored.ensures ∙ stored_by base c.args.a.now p c.in-StoreConflict.line shows
    ∙ sym (ap (comes_from_outside (items c.args.guard.now) p) c.in-StoreConflict.is)

pub returns-then-fetched : goal.returns-then-fetched
returns-then-fetched c = λ base p shows.
    let line = c.in-FetchConflict.line in
    fetch_then c.fetched.result c.stored-then-fetched.result ((footprint p).fetched line) ((footprint
    p).stored line)
    (c.fetched.ensures ∙ fetched_by base c.args.a.now p line shows) c.if-fetched.true
    (c.stored-then-fetched.ensures ∙ stored_by base c.args.a.now p line shows)
    ∙ sym (ap (comes_from_outside (items c.args.guard.now) p) c.in-FetchConflict.is)

pub returns-else-fetched : goal.returns-else-fetched
returns-else-fetched c = λ base p shows.
    let line = c.in-FetchConflict.line in
    fetch_else c.fetched.result ((footprint p).fetched line) ((footprint p).stored line)
    (c.fetched.ensures ∙ fetched_by base c.args.a.now p line shows) c.if-fetched.false
    ∙ sym (ap (comes_from_outside (items c.args.guard.now) p) c.in-FetchConflict.is)

pub returns-then-constrains : goal.returns-then-constrains
returns-then-constrains c = λ base p shows.
    let text = items c.args.guard.now in
    starved_then c.asks.result (is_constrained p.nest) (has_operands (fate text p))
    (same_limit base c.args.a.now p c.constrains.result true shows c.constrains.ensures c.if-constrains.true)
    (c.asks.ensures
    ∙ ap has_operands (sym (comes_fate text p c.coming.result (c.coming.ensures base p shows))))
    ∙ sym (ap (comes_from_outside text p) c.in-Starved.is)
