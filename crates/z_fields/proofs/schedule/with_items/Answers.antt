use Rattle.std.proofs.lemmas.Result.{err_from_is_err_and}
use Rattle.std.proofs.Common.{map}
use Rattle.z_fields.specs.SmallEvent.{event_in}
use Rattle.z_fields.proofs.Loops.{items_go, items_fail, items_over}
use Rattle.z_fields.proofs.schedule.with_items.Goals as goal

pub loop-item-preserved : goal.loop-item-preserved
loop-item-preserved c = items_go c.args.cpus c.args.items.now c.loop-item.item-index (map event_in c.loop-item.events.items)
    _ _ _ c.loop-item-test.true c.loop-item.invariant c.in_ok-with_item.ensures

pub returns-in_err-with_item : goal.returns-in_err-with_item
returns-in_err-with_item c =
    let p = err_from_is_err_and c.from_residual.result c.from_residual.ensures.1 in
    rw (p.1, p.2)
    (items_fail c.args.cpus c.args.items.now c.loop-item.item-index (map event_in c.loop-item.events.items) _ _ _
    c.in_err-with_item.field-0.0 c.loop-item-test.true c.loop-item.invariant c.in_err-with_item.ensures)

pub returns : goal.returns
returns c = items_over c.args.cpus c.args.items.now c.loop-item.item-index (map event_in c.loop-item.events.items) _
    c.loop-item-test.false c.loop-item.invariant
