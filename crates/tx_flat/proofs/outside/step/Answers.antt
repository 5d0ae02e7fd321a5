use Rattle.std.proofs.Common.{refl, sym, ◌∙◌, true, false}
use Rattle.std.specs.FinSet.{items}
use Rattle.std.specs.Prelude.{Ok}
use Rattle.tx_serial.specs.Fate.{Ends}
use Rattle.tx_private.specs.Bytes.{function_of}
use Rattle.tx_flat.proofs.Applied.{may}
use Rattle.tx_flat.proofs.Stepping.{no_step, step_by, begun, interrupted, stepped_as}
use Rattle.tx_flat.proofs.outside.step.Goals as goal

pub returns-then-not-may_act-clause-applied : goal.returns-then-not-may_act-clause-applied
returns-then-not-may_act-clause-applied c = (
  λ f k h. no_step f k (may f k c.args.storage.now (items c.args.guard.now) c.args.slot.now c.may_act.result
      false h c.may_act.ensures c.if-not-may_act.true),
  refl,
  refl,
)

pub returns-then-begins-clause-applied : goal.returns-then-begins-clause-applied
returns-then-begins-clause-applied c = (
  λ f k h.
      begun f k c.args.storage.now (items c.args.guard.now) c.args.slot.now c.in-Goes.instr
      c.in-Goes.admitted.touches h
      (may f k c.args.storage.now (items c.args.guard.now) c.args.slot.now c.may_act.result true h
      c.may_act.ensures c.if-not-may_act.false)
      (c.in-Goes.ensures (function_of c.args.storage.now) _ c.rest.ensures.shown).0
      (sym c.begins.ensures ∙ c.if-begins.true),
  refl,
  refl,
)

pub perform-requires-clause-passes : goal.perform-requires-clause-passes
perform-requires-clause-passes c =
    (items c.args.guard.now, (c.in-Goes.ensures (function_of c.args.storage.now) _ c.rest.ensures.shown).0)

pub perform-requires-clause-places : goal.perform-requires-clause-places
perform-requires-clause-places c =
    (c.in-Goes.ensures (function_of c.args.storage.now) _ c.rest.ensures.shown).1

pub returns-in-Ends-clause-applied : goal.returns-in-Ends-clause-applied
returns-in-Ends-clause-applied c = (
  λ f k h. step_by f k c.args.storage.now (items c.args.guard.now) c.args.slot.now (Ends _) h
      (may f k c.args.storage.now (items c.args.guard.now) c.args.slot.now c.may_act.result true h
      c.may_act.ensures c.if-not-may_act.false)
      (c.in-Ends.ensures (function_of c.args.storage.now) _ c.rest.ensures.shown),
  refl,
  refl,
)

pub returns-in-Stops-clause-applied : goal.returns-in-Stops-clause-applied
returns-in-Stops-clause-applied c = λ f k h.
    interrupted f k c.args.storage.now (items c.args.guard.now) c.args.slot.now c.stop.new.slot
    c.in-Stops.exception h
    (may f k c.args.storage.now (items c.args.guard.now) c.args.slot.now c.may_act.result true h
    c.may_act.ensures c.if-not-may_act.false)
    (c.in-Stops.ensures (function_of c.args.storage.now) _ c.rest.ensures.shown) c.stop.ensures

pub returns-else-begins-clause-applied : goal.returns-else-begins-clause-applied
returns-else-begins-clause-applied c =
    stepped_as c.args.storage.now (items c.args.guard.now) c.perform.new.storage c.args.slot.now
    c.perform.new.slot c.in-Goes.instr c.in-Goes.admitted.touches (Ok tt)
    (λ f k h. may f k c.args.storage.now (items c.args.guard.now) c.args.slot.now c.may_act.result true h
    c.may_act.ensures c.if-not-may_act.false)
    (c.in-Goes.ensures (function_of c.args.storage.now) _ c.rest.ensures.shown).0
    (sym c.begins.ensures ∙ c.if-begins.false) c.perform.ensures.performed
