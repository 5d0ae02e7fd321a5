-- Every event is recorded but a turn that is idle.
use Rattle.std.proofs.Common.{◌≡◌, [], ◌∷◌, ◌++◌, sym, subst, ◌∙◌}
use Rattle.tx_journal.specs.declared.events.Event.{Event}
use Rattle.tx_machine.specs.Machine.{event_of}
use Rattle.tx_step.proofs.Followed.{ready_recorded, idle_unrecorded, external_recorded}
use Rattle.tx_step.proofs.trace.is_recorded.Goals as goal

pub returns-in-Turn-clause-recorded : goal.returns-in-Turn-clause-recorded
returns-in-Turn-clause-recorded c is =
    let machine = c.args.machine.now in
    let told = sym c.events-events.ensures.meant ∙ c.events-events.ensures.recorded in
    subst (λ (x : Event). (event_of machine x).state.events ≡ machine.events ++ x ∷ []) (sym c.in-Turn.is)
    (ready_recorded machine told c.in-Turn.cpu (sym c.ready.ensures ∙ is))

pub returns-in-Turn-clause-idle : goal.returns-in-Turn-clause-idle
returns-in-Turn-clause-idle c not =
    let machine = c.args.machine.now in
    let told = sym c.events-events.ensures.meant ∙ c.events-events.ensures.recorded in
    subst (λ (x : Event). (event_of machine x).state.events ≡ machine.events) (sym c.in-Turn.is)
    (idle_unrecorded machine told c.in-Turn.cpu (sym c.ready.ensures ∙ not))

pub returns-in-External-clause-recorded : goal.returns-in-External-clause-recorded
returns-in-External-clause-recorded c is =
    let machine = c.args.machine.now in
    let told = sym c.events-events.ensures.meant ∙ c.events-events.ensures.recorded in
    subst (λ (x : Event). (event_of machine x).state.events ≡ machine.events ++ x ∷ []) (sym c.in-External.is)
    (external_recorded machine told c.in-External.field-0)
