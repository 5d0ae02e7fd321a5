-- The events happen one after the other.
use Rattle.std.proofs.Common.{◌<◌, get_or, length, arith, sym, subst}
use Rattle.std.proofs.lemmas.List.{get_or_default}
use Rattle.tx_journal.specs.declared.events.Event.{Event}
use Rattle.tx_journal.specs.declared.events.Event.TheVariants.{Turn}
use Rattle.tx_machine.specs.Machine.{setting_of}
use Rattle.tx_meaning.specs.Limits.{Setting}
use Rattle.tx_meaning.specs.Meaning.{IsSetting}
use Rattle.tx_step.proofs.Followed.{begins_following, follows_on, may_come}
use Rattle.tx_step.proofs.Due.{begins_covered}
use Rattle.tx_step.proofs.Stepped.{begins_traced}
use Rattle.tx_step.proofs.trace.seen_along.Goals as goal

pub loop-event-init : goal.loop-event-init
loop-event-init c =
    let image = c.args.machine.now.image in
    let limits = c.args.machine.now.limits in
    record {
      covers = begins_covered image limits c.args.machine.now c.none-stored.result c.requires.opened;
      follows = begins_following image limits c.args.events.now c.args.machine.now c.requires.opened;
      traced =
          begins_traced image limits c.args.machine.now c.in_ok-view.view c.args.steps.now.items c.requires.opened
          c.in_ok-view.ensures c.requires.none;
    }

pub follow-requires-clause-setting : goal.follow-requires-clause-setting
follow-requires-clause-setting c =
    subst IsSetting (sym c.loop-event.invariant.follows.setting) c.requires.setting

pub follow-requires-clause-external : goal.follow-requires-clause-external
follow-requires-clause-external c external =
    let m : Setting = setting_of c.args.machine.now in
    let k = c.loop-event.event-index in
    let within : k < length c.args.events.now = omega arith in
    let e : Event = get_or c.args.events.now k (Turn 0) in
    may_come m c.args.events.now k e within (get_or_default c.args.events.now k e (Turn 0) within)
    c.loop-event.machine c.loop-event.invariant.follows external c.requires.externals

pub loop-event-preserved : goal.loop-event-preserved
loop-event-preserved c =
    let m : Setting = setting_of c.args.machine.now in
    let k = c.loop-event.event-index in
    let within : k < length c.args.events.now = omega arith in
    let e : Event = get_or c.args.events.now k (Turn 0) in
    record {
      follows =
          follows_on m c.args.events.now k e within (get_or_default c.args.events.now k e (Turn 0) within)
          c.loop-event.machine c.loop-event.invariant.follows c.follow.new.machine
          c.in_ok-follow.ensures.machine c.in_ok-follow.ensures.state;
      covers = c.in_ok-follow.ensures.covers;
      traced = c.in_ok-follow.ensures.traced;
    }
