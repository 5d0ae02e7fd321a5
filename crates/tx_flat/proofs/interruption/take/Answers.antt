use Rattle.std.proofs.Common.{refl, ap, ◌∙◌, None}
use Rattle.z_regs.specs.Cpu.{cpu_of}
use Rattle.z_regs.specs.Psw.{loaded}
use Rattle.tx_flat.specs.declared.slot.Slot.{Slot}
use Rattle.tx_flat.specs.Slots.{pending_of}
use Rattle.tx_flat.proofs.Applied.{none_taken, none_waits, taken}
use Rattle.tx_flat.proofs.interruption.take.Goals as goal

pub returns-in-Some-clause-applied : goal.returns-in-Some-clause-applied
returns-in-Some-clause-applied c = λ text. (
  λ f i h. none_taken f i _ (h.pending ∙ ap pending_of c.in-Some.is),
  refl,
  refl,
)

pub returns-in-None-waiting-clause-applied : goal.returns-in-None-waiting-clause-applied
returns-in-None-waiting-clause-applied c = λ text. (
  λ f i h. none_waits f i (h.pending ∙ ap pending_of c.in-None.is) (h.waiting ∙ c.in-None-waiting.is),
  refl,
  refl,
)

pub returns-in-Some-waiting-clause-applied : goal.returns-in-Some-waiting-clause-applied
returns-in-Some-waiting-clause-applied c = λ text f i h.
    let new : Slot = record {
      image = c.load_psw.new.image;
      pending = c.args.slot.now.pending;
      waiting = None;
    } in
    taken f i c.args.storage.now text c.store_interruption.new.storage c.args.slot.now new
    c.in-Some-waiting.waiting h c.in-None.is c.in-Some-waiting.is c.store_interruption.ensures.stored
    (c.load_psw.ensures ∙ ap (λ psw. loaded psw (cpu_of c.args.slot.now.image)) c.new_status-psw.ensures)
    c.in-None.is
    refl

pub returns-in-Some-waiting-clause-ready : goal.returns-in-Some-waiting-clause-ready
returns-in-Some-waiting-clause-ready c =
    c.follow_interruption.ensures c.args.storage.now c.store_interruption.new.storage c.turn.ensures
    c.store_interruption.ensures.size c.store_interruption.ensures.stored
