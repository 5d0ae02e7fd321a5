-- What the machine shows is followed, and a step is more.
use Rattle.std.proofs.Common.{◌≡◌, ℕ, ◌<◌, true, [], ◌∷◌, ◌++◌, All, length, ap, subst, ◌∙◌, rules}
use Rattle.tx_footprint.specs.Places.{stores}
use Rattle.tx_journal.specs.Image.{cpu_of_event}
use Rattle.tx_meaning.specs.Views.{AreKnown}
use Rattle.tx_machine.specs.Machine.{event_of, setting_of, state_of}
use Rattle.tx_machine.specs.Wanted.{wanted}
use Rattle.tx_step.proofs.Due.{due_or_same, seen_covers}
use Rattle.tx_step.proofs.Resting.{has_grown, stay_as_seen}
use Rattle.tx_step.proofs.Stepped.{follows_idle, follows_more, same_cpus, full_words, same_storage}
use Rattle.step_changes.specs.Stored.{has}
use Rattle.tx_step.specs.Stored.{Covers}
use Rattle.tx_step.proofs.trace.follow.Goals as goal

pub follow-requires-clause-cpus : goal.follow-requires-clause-cpus
follow-requires-clause-cpus c =
    same_cpus c.args.machine.now c.happen-2.new.machine c.args.e c.args.view.now c.args.steps.now.items
    c.requires.traced c.happen-2.ensures.machine

pub follow-requires-clause-size : goal.follow-requires-clause-size
follow-requires-clause-size c =
    full_words c.args.machine.now c.args.view.now c.args.steps.now.items c.requires.traced

pub follow-requires-clause-same : goal.follow-requires-clause-same
follow-requires-clause-same c size =
    same_storage c.args.machine.now c.happen-2.new.machine c.args.e c.args.view.now c.args.steps.now.items
    c.requires.traced c.happen-2.ensures.machine c.happen-2.ensures.grows size

pub follow-requires-clause-grown : goal.follow-requires-clause-grown
follow-requires-clause-grown c =
    has_grown c.args.machine.now c.happen-2.new.machine c.args.e c.args.view.now c.args.steps.now.items
    c.requires.traced c.happen-2.ensures.grows

pub follow-requires-clause-stay : goal.follow-requires-clause-stay
follow-requires-clause-stay c =
    stay_as_seen c.args.machine.now c.happen-2.new.machine c.args.e c.args.view.now c.args.steps.now.items
    c.requires.traced c.happen-2.ensures.machine c.happen-2.ensures.grows
    c.happen-2.ensures.legal c.happen-2.ensures.views

pub follow-requires-clause-others : goal.follow-requires-clause-others
follow-requires-clause-others c w d low =
    let m = setting_of c.args.machine.now in
    let s = state_of c.args.machine.now in
    let next = c.happen-2.new.machine in
    let lines = c.add_touches.new.self in
    let i = cpu_of_event c.args.e in
    let cpu : c.cpu_in-cpu.result ≡ i = c.cpu_in-cpu.ensures in
    let asks : c.wanted.result ≡ wanted m s i = c.wanted.ensures.value ∙ ap (wanted m s) cpu in
    let known : AreKnown m c.args.machine.now.events =
    subst (All (λ e. cpu_of_event e < length c.args.machine.now.image.cpus)) c.events-events.ensures.recorded
    c.events-events.ensures.known in
    let covers : Covers m s lines =
    λ j line is. c.in_ok-add_touches.ensures.others j line (c.requires.covers j line is) in
    let wants : (line : ℕ) → stores (wanted m s i) line ≡ true → has lines i line ≡ true =
    λ line is. subst (λ j. has lines j line ≡ true) cpu (c.in_ok-add_touches.ensures.there line
    (ap (λ r. stores r line) asks ∙ is)) in
    due_or_same c.args.machine.now next c.args.e lines c.requires.setting known c.requires.known
    c.happen-2.ensures.machine c.happen-2.ensures.state covers wants
    (record { cpu = c.cpu_in-cpu.result; touches = c.wanted.result }) cpu asks
    c.args.view.now c.args.steps.now.items c.requires.traced w d low

pub returns-then-not-is_recorded-clause-traced : goal.returns-then-not-is_recorded-clause-traced
returns-then-not-is_recorded-clause-traced c =
    let idle : (event_of c.args.machine.now c.args.e).state.events ≡ c.args.machine.now.events = search rules in
    follows_idle c.args.machine.now c.happen.new.machine c.args.e c.args.view.now c.args.steps.now.items
    c.happen.ensures.machine idle c.requires.traced

pub returns-clause-traced : goal.returns-clause-traced
returns-clause-traced c =
    let recorded : (event_of c.args.machine.now c.args.e).state.events
    ≡ c.args.machine.now.events ++ c.args.e ∷ [] = search rules in
    follows_more c.args.machine.now c.args.e c.args.view.now c.follow.new.self c.args.steps.now.items
    c.in_ok-step.step c.happen-2.new.machine c.push.new.self.items c.happen-2.ensures.machine recorded
    c.in_ok-push.ensures.items c.requires.traced c.in_ok-step.ensures.value c.in_ok-step.ensures.forward
    c.in_ok-step.ensures.back

pub returns-clause-covers : goal.returns-clause-covers
returns-clause-covers c =
    let m = setting_of c.args.machine.now in
    let s = state_of c.args.machine.now in
    let next = c.happen-2.new.machine in
    let lines = c.add_touches.new.self in
    let i = cpu_of_event c.args.e in
    let cpu : c.cpu_in-cpu.result ≡ i = c.cpu_in-cpu.ensures in
    let asks : c.wanted.result ≡ wanted m s i = c.wanted.ensures.value ∙ ap (wanted m s) cpu in
    let known : AreKnown m c.args.machine.now.events =
    subst (All (λ e. cpu_of_event e < length c.args.machine.now.image.cpus)) c.events-events.ensures.recorded
    c.events-events.ensures.known in
    let covers : Covers m s lines =
    λ j line is. c.in_ok-add_touches.ensures.others j line (c.requires.covers j line is) in
    let wants : (line : ℕ) → stores (wanted m s i) line ≡ true → has lines i line ≡ true =
    λ line is. subst (λ j. has lines j line ≡ true) cpu (c.in_ok-add_touches.ensures.there line
    (ap (λ r. stores r line) asks ∙ is)) in
    seen_covers c.args.machine.now next c.args.e lines c.requires.setting known c.requires.known
    c.happen-2.ensures.machine c.happen-2.ensures.state covers wants
    (record { cpu = c.cpu_in-cpu.result; touches = c.wanted.result }) cpu asks c.follow.new.self
    c.in_ok-step.ensures.value c.keep_live.new.stored c.keep_live.ensures
