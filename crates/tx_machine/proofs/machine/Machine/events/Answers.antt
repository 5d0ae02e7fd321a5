-- What is kept is what the recorded events mean, and so there is no more of it than they can come to.
use Rattle.std.proofs.Common.{◌<◌, ◌≤◌, length, sym, ap, ◌∙◌, subst}
use Rattle.std.specs.Prelude.{All}
use Rattle.tx_journal.specs.Image.{cpu_of_event}
use Rattle.tx_meaning.specs.State.{State}
use Rattle.tx_machine.specs.Machine.{Seen, state_of, setting_of, most_events}
use Rattle.tx_machine.specs.declared.machine.Machine.TheInside.{Inside}
use Rattle.tx_machine.proofs.Most.{at_most, entries_at_most}
use Rattle.tx_machine.proofs.Read.{reads_state}
use Rattle.tx_machine.proofs.machine.Machine.events.Goals as goal

pub returns-clause-meant : goal.returns-clause-meant
returns-clause-meant c =
    c.as_slice.ensures.value ∙ ap (λ (i : Inside). i.works.events) c.self-inside.view_is
    ∙ sym (ap (λ (t : State). t.events) (reads_state _ _ _ c.self.invariant.stands))
    ∙ ap (λ (s : Seen). (state_of s).events) c.self.view_is

pub returns-clause-known : goal.returns-clause-known
returns-clause-known c =
    let kept = c.self.inside.works.events in
    subst (λ es. All (λ e. cpu_of_event e < length c.args.self.now.image.cpus) es)
    (sym (c.as_slice.ensures.value ∙ ap (λ (i : Inside). i.works.events) c.self-inside.view_is))
    (subst (λ (s : Seen). All (λ e. cpu_of_event e < length s.image.cpus) kept) c.self.view_is
    c.self.invariant.stands.events.known)

pub returns-clause-most : goal.returns-clause-most
returns-clause-most c =
    let allowed = c.self.invariant.stands.events in
    subst (λ es. length es ≤ most_events (setting_of c.args.self.now)) (sym (returns-clause-meant c))
    (subst (λ (s : Seen). length (state_of s).events ≤ most_events (setting_of s)) c.self.view_is
    (at_most _ c.self.inside.works.events allowed.known allowed.externals))

pub returns-clause-entries : goal.returns-clause-entries
returns-clause-entries c =
    subst (λ es. length (state_of c.args.self.now).history ≤ length es) (sym (returns-clause-meant c))
    (subst (λ (s : Seen). length (state_of s).history ≤ length (state_of s).events) c.self.view_is
    (entries_at_most _ c.self.inside.works.events c.self.invariant.stands.events.known))
