-- The events recorded before and behind a turn are those of the meaning.
use Rattle.std.proofs.Common.{◌+◌, ◌∙◌, length, sym, ap}
use Rattle.tx_journal.specs.declared.events.Event.TheVariants.{Turn}
use Rattle.tx_schedule.specs.Machine.{Seen, setting_of, state_of, event_of}
use Rattle.tx_meaning.specs.declared.outcome.Outcome.{Outcome}
use Rattle.tx_board.specs.Shares.{recorded_by}
use Rattle.tx_board.proofs.Recorded.{ready_recorded, events_recorded}
use Rattle.tx_board.proofs.turns.make_turn.Goals as goal

pub returns-clause-recorded : goal.returns-clause-recorded
returns-clause-recorded c =
    let before = c.args.machine.now in
    let meant = sym c.events-before.ensures.recorded ∙ c.events-before.ensures.meant in
    ap (λ (v : Seen). length v.events) c.event-outcome.ensures.machine
    ∙ events_recorded (setting_of before) c.args.cpu (state_of before)
    ∙ ap (λ es. length es + recorded_by (event_of before (Turn c.args.cpu)).outcome) (sym meant)
    ∙ ap (λ (o : Outcome). length before.events + recorded_by o) (sym c.event-outcome.ensures.outcome)

pub returns-clause-ready : goal.returns-clause-ready
returns-clause-ready c ready =
    let before = c.args.machine.now in
    ap recorded_by c.event-outcome.ensures.outcome
    ∙ ready_recorded (setting_of before) c.args.cpu (state_of before) ready
