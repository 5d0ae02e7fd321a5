-- What a turn makes of all that is kept is what it means.
use Rattle.std.proofs.Common.{ap, ◌∙◌, refl}
use Rattle.tx_journal.specs.declared.events.Event.TheVariants.{Turn}
use Rattle.tx_meaning.specs.Limits.{Setting}
use Rattle.tx_meaning.specs.Turn.{Turned}
use Rattle.tx_home.specs.Turn.{KTurned, k_happen}
use Rattle.tx_machine.specs.Machine.{nobody}
use Rattle.tx_machine.proofs.Going.{has_events_room, has_room_for, turns_may, has_turn}
use Rattle.tx_machine.proofs.Happened.{stands_after, tells}
use Rattle.tx_machine.proofs.Laws.{means}
use Rattle.tx_machine.proofs.machine.advance_ready.Goals as goal

pub turn-turned-requires-clause-ready : goal.turn-turned-requires-clause-ready
turn-turned-requires-clause-ready c rest =
    has_turn _ c.args.works.now _ c.requires.stands c.args.cpu c.requires.known c.requires.ready rest

pub turn-turned-requires-clause-turns : goal.turn-turned-requires-clause-turns
turn-turned-requires-clause-turns c rest =
    turns_may _ c.args.works.now _ c.requires.stands c.args.cpu c.requires.known rest
    (has_turn _ c.args.works.now _ c.requires.stands c.args.cpu c.requires.known c.requires.ready rest)

pub turn-turned-requires-clause-room : goal.turn-turned-requires-clause-room
turn-turned-requires-clause-room c rest = has_room_for _ c.args.works.now _ c.requires.stands rest

pub turn-turned-requires-clause-events : goal.turn-turned-requires-clause-events
turn-turned-requires-clause-events c = has_events_room _ c.args.works.now _ c.requires.stands

pub returns-clause-stands : goal.returns-clause-stands
unfolding k_happen
returns-clause-stands c =
    let m : Setting = record { image = c.args.program.now; limits = c.args.limits } in
    stands_after m c.args.works.now c.turn-turned.new.self _ _ c.requires.stands (Turn c.args.cpu) c.requires.known
    c.turn-turned.ensures.size (ap (λ (q : KTurned). q.kept) (c.turn-turned.ensures.value (nobody m))) refl

pub returns-clause-state : goal.returns-clause-state
unfolding k_happen
returns-clause-state c =
    let m : Setting = record { image = c.args.program.now; limits = c.args.limits } in
    let kept = ap (λ (q : KTurned). q.kept) (c.turn-turned.ensures.value (nobody m)) in
    means m c.args.works.now c.turn-turned.new.self _ _ c.requires.stands
    (stands_after m c.args.works.now c.turn-turned.new.self _ _ c.requires.stands (Turn c.args.cpu) c.requires.known
    c.turn-turned.ensures.size kept refl)
    (Turn c.args.cpu) c.requires.known kept

pub returns-clause-events : goal.returns-clause-events
unfolding k_happen
returns-clause-events c =
    let m : Setting = record { image = c.args.program.now; limits = c.args.limits } in
    ap (λ (q : KTurned). q.kept.state.events) (c.turn-turned.ensures.value (nobody m))
    ∙ ap (λ (t : Turned). t.state.events) (tells m c.args.works.now _ c.requires.stands (Turn c.args.cpu) c.requires.known)

pub returns-clause-reject : goal.returns-clause-reject
unfolding k_happen
returns-clause-reject c =
    let m : Setting = record { image = c.args.program.now; limits = c.args.limits } in
    ap (λ (q : KTurned). q.reject) (c.turn-turned.ensures.value (nobody m))
    ∙ ap (λ (t : Turned). t.reject) (tells m c.args.works.now _ c.requires.stands (Turn c.args.cpu) c.requires.known)

pub returns-clause-outcome : goal.returns-clause-outcome
unfolding k_happen
returns-clause-outcome c =
    let m : Setting = record { image = c.args.program.now; limits = c.args.limits } in
    ap (λ (q : KTurned). q.outcome) (c.turn-turned.ensures.value (nobody m))
    ∙ ap (λ (t : Turned). t.outcome) (tells m c.args.works.now _ c.requires.stands (Turn c.args.cpu) c.requires.known)
