-- The events so far have happened.
use Rattle.std.specs.Arc.{arc_value}
use Rattle.tx_meaning.specs.Limits.{Setting}
use Rattle.tx_step.proofs.Followed.{Follows}
use Rattle.tx_heat.proofs.measuring.heat.Given as goal

abbrev pub invariant-loop-event : goal.invariant-loop-event
invariant-loop-event l =
    let m : Setting = record { image = arc_value l.fn.image; limits = l.fn.limits } in
    Follows m l.events l.event-index l.counting
