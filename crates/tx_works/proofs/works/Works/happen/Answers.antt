-- An idle turn changes nothing; an event from outside is recorded, and leaves room for the entry of an abort.
use Rattle.std.proofs.Common.{◌≡◌, ◌<◌, None, arith, subst, sym, ap, ◌∙◌, length}
use Rattle.tx_journal.specs.Image.{cpu_of_event}
use Rattle.tx_journal.specs.declared.events.Event.{Event}
use Rattle.tx_meaning.specs.Limits.{Setting}
use Rattle.tx_keeping.specs.Turn.{k_external, k_idle, k_happen}
use Rattle.tx_works.specs.Ready.{MayTurn}
use Rattle.tx_works.specs.Works.{Works, kept_by}
use Rattle.tx_works.proofs.Lined.{idled-is}
use Rattle.tx_works.proofs.Seats.{no_seat}
use Rattle.tx_works.proofs.works.Works.happen.Goals as goal

pub turn-requires-clause-turns : goal.turn-requires-clause-turns
turn-requires-clause-turns c rest =
    let m : Setting = record { image = c.args.program.now; limits = c.args.limits } in
    let k = kept_by rest c.args.self.now in
    subst (λ (e : Event). k_idle m k (cpu_of_event e) ≡ None → MayTurn m (cpu_of_event e) k) c.in-Turn.is
    (c.requires.turns rest) (sym (c.in-None.ensures rest c.args.program.now))

pub external-requires-clause-room : goal.external-requires-clause-room
external-requires-clause-room c =
    subst (λ (w : Works). length w.history < w.room) (sym c.note.ensures)
    (omega (arith, c.requires.room no_seat))

pub returns-in-External-clause-value : goal.returns-in-External-clause-value
unfolding k_happen
returns-in-External-clause-value c rest =
    let m : Setting = record { image = c.args.program.now; limits = c.args.limits } in
    let now = c.args.self.now in
    let cpu = c.in-External.cpu in
    c.external.ensures.value rest
    ∙ ap (λ (w : Works). k_external cpu (kept_by rest w)) c.note.ensures
    ∙ sym (ap (λ (e : Event). k_happen m e (kept_by rest now)) c.in-External.is)

pub returns-in-Some-clause-value : goal.returns-in-Some-clause-value
unfolding k_happen
returns-in-Some-clause-value c rest =
    let m : Setting = record { image = c.args.program.now; limits = c.args.limits } in
    let now = c.args.self.now in
    let cpu = c.in-Turn.cpu in
    idled-is m (kept_by rest now) cpu c.in-Some.outcome c.without_reject.result
    ((c.in-Some.ensures) rest c.args.program.now) c.without_reject.ensures
    ∙ sym (ap (λ (e : Event). k_happen m e (kept_by rest now)) c.in-Turn.is)
