-- The events happen one after the other.
use Rattle.std.proofs.Common.{◌<◌, ◌≤◌, ◌∙◌, ap, sym, subst, get_or, length, arith}
use Rattle.std.specs.Arc.{arc_value}
use Rattle.std.proofs.lemmas.List.{get_or_default, take_all}
use Rattle.tx_journal.specs.Image.{cpu_of_event}
use Rattle.tx_journal.specs.declared.events.Event.{Event}
use Rattle.tx_journal.specs.declared.events.Event.TheVariants.{Turn}
use Rattle.tx_meaning.specs.Limits.{Setting}
use Rattle.tx_meaning.specs.Meaning.{meaning}
use Rattle.tx_step.proofs.Followed.{begins_following, follows_on, may_come}
use Rattle.tx_heat.proofs.Recorded.{ran_heat}
use Rattle.tx_heat.proofs.measuring.heat.Goals as goal

pub loop-event-init : goal.loop-event-init
loop-event-init c =
    begins_following (arc_value c.args.image) c.args.limits c.args.events.now c.in_ok-counting.counting
    (c.in_ok-counting.ensures ∙ c.in_ok-machine.ensures)

pub event-requires-clause-known : goal.event-requires-clause-known
event-requires-clause-known c =
    let k = c.loop-event.event-index in
    let within : k < length c.args.events.now = omega arith in
    let e : Event = get_or c.args.events.now k (Turn 0) in
    subst (λ (n : Setting). cpu_of_event e < length n.image.cpus) (sym c.loop-event.invariant.setting)
    (c.requires.known k (Turn 0) within)

pub event-requires-clause-external : goal.event-requires-clause-external
event-requires-clause-external c external =
    let m : Setting = record { image = arc_value c.args.image; limits = c.args.limits } in
    let k = c.loop-event.event-index in
    let within : k < length c.args.events.now = omega arith in
    let e : Event = get_or c.args.events.now k (Turn 0) in
    may_come m c.args.events.now k e within (get_or_default c.args.events.now k e (Turn 0) within)
    c.loop-event.counting c.loop-event.invariant external c.requires.externals

pub loop-event-preserved : goal.loop-event-preserved
loop-event-preserved c =
    let m : Setting = record { image = arc_value c.args.image; limits = c.args.limits } in
    let k = c.loop-event.event-index in
    let within : k < length c.args.events.now = omega arith in
    let e : Event = get_or c.args.events.now k (Turn 0) in
    follows_on m c.args.events.now k e within (get_or_default c.args.events.now k e (Turn 0) within)
    c.loop-event.counting c.loop-event.invariant c.event.new.self c.event.ensures.machine c.event.ensures.state

pub returns : goal.returns
returns c =
    let m : Setting = record { image = arc_value c.args.image; limits = c.args.limits } in
    let events = c.args.events.now in
    let k = c.loop-event.event-index in
    let inv = c.loop-event.invariant in
    let past : length events ≤ k = omega arith in
    c.heat.ensures
    ∙ ran_heat m c.loop-event.counting events inv.setting
    (inv.state ∙ ap (meaning m) (take_all k events past))
