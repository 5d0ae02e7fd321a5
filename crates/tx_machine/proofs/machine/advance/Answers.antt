-- What happens in all that is kept is what the event means.
use Rattle.std.proofs.Common.{ap, ◌∙◌}
use Rattle.tx_journal.specs.Image.{cpu_of_event}
use Rattle.tx_meaning.specs.Limits.{Setting}
use Rattle.tx_meaning.specs.Turn.{Turned}
use Rattle.tx_home.specs.Turn.{KTurned}
use Rattle.tx_machine.specs.Machine.{nobody}
use Rattle.tx_machine.proofs.Going.{has_events_room, has_room_for, turns_may}
use Rattle.tx_machine.proofs.Happened.{stands_after, tells}
use Rattle.tx_machine.proofs.Laws.{means}
use Rattle.tx_machine.proofs.machine.advance.Goals as goal

pub happen-turned-requires-clause-turns : goal.happen-turned-requires-clause-turns
happen-turned-requires-clause-turns c rest =
    turns_may _ c.args.works.now _ c.requires.stands (cpu_of_event c.args.e) c.requires.known rest

pub happen-turned-requires-clause-room : goal.happen-turned-requires-clause-room
happen-turned-requires-clause-room c rest = has_room_for _ c.args.works.now _ c.requires.stands rest

pub happen-turned-requires-clause-events : goal.happen-turned-requires-clause-events
happen-turned-requires-clause-events c = has_events_room _ c.args.works.now _ c.requires.stands

pub returns-clause-stands : goal.returns-clause-stands
returns-clause-stands c =
    let m : Setting = record { image = c.args.program.now; limits = c.args.limits } in
    stands_after m c.args.works.now c.happen-turned.new.self _ _ c.requires.stands c.args.e c.requires.known
    c.happen-turned.ensures.size (ap (λ (q : KTurned). q.kept) (c.happen-turned.ensures.value (nobody m)))
    c.left_behind.ensures

pub returns-clause-state : goal.returns-clause-state
returns-clause-state c =
    let m : Setting = record { image = c.args.program.now; limits = c.args.limits } in
    let kept = ap (λ (q : KTurned). q.kept) (c.happen-turned.ensures.value (nobody m)) in
    means m c.args.works.now c.happen-turned.new.self _ _ c.requires.stands
    (stands_after m c.args.works.now c.happen-turned.new.self _ _ c.requires.stands c.args.e c.requires.known
    c.happen-turned.ensures.size kept c.left_behind.ensures)
    c.args.e c.requires.known kept

pub returns-clause-events : goal.returns-clause-events
returns-clause-events c =
    let m : Setting = record { image = c.args.program.now; limits = c.args.limits } in
    ap (λ (q : KTurned). q.kept.state.events) (c.happen-turned.ensures.value (nobody m))
    ∙ ap (λ (t : Turned). t.state.events) (tells m c.args.works.now _ c.requires.stands c.args.e c.requires.known)

pub returns-clause-reject : goal.returns-clause-reject
returns-clause-reject c =
    let m : Setting = record { image = c.args.program.now; limits = c.args.limits } in
    ap (λ (q : KTurned). q.reject) (c.happen-turned.ensures.value (nobody m))
    ∙ ap (λ (t : Turned). t.reject) (tells m c.args.works.now _ c.requires.stands c.args.e c.requires.known)

pub returns-clause-outcome : goal.returns-clause-outcome
returns-clause-outcome c =
    let m : Setting = record { image = c.args.program.now; limits = c.args.limits } in
    ap (λ (q : KTurned). q.outcome) (c.happen-turned.ensures.value (nobody m))
    ∙ ap (λ (t : Turned). t.outcome) (tells m c.args.works.now _ c.requires.stands c.args.e c.requires.known)
