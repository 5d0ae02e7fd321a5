-- What is kept is what the recorded events mean.
use Rattle.std.proofs.Common.{◌≡◌, ℕ, ◌<◌, sym, ap, ◌∙◌, subst, length}
use Rattle.std.specs.Prelude.{List, get_or}
use Rattle.std.proofs.lemmas.List.{get_or_default}
use Rattle.tx_meaning.specs.Limits.{Setting}
use Rattle.tx_meaning.specs.Meaning.{meaning}
use Rattle.tx_meaning.specs.State.{State}
use Rattle.tx_home.specs.Works.{Seat, Works}
use Rattle.tx_machine.specs.Machine.{Seen, Stands, state_of, nobody, tally_at}
use Rattle.tx_machine.specs.declared.machine.Machine.TheInside.{Inside}
use Rattle.tx_machine.proofs.Read.{reads_state}
use Rattle.tx_machine.proofs.Going.{history_is_short}
use Rattle.tx_machine.proofs.machine.Machine.tally.Goals as goal

reads_tally : (m : Setting) (w : Works) (remaining : ℕ) → Stands m w remaining
    → (slots : List Seat) (i : ℕ) (rest : Seat) → slots ≡ w.slots → i < length w.slots
    → (get_or slots i rest).tally ≡ tally_at (meaning m w.events) i
reads_tally m w remaining stands slots i rest same within =
    ap (λ (seats : List Seat). (get_or seats i rest).tally) same
    ∙ ap (λ (s : Seat). s.tally) (get_or_default w.slots i rest (nobody m) within)
    ∙ sym (ap (λ (t : State). tally_at t i) (reads_state m w remaining stands))

pub returns-clause-value : goal.returns-clause-value
returns-clause-value c =
    let cpu = c.args.cpu in
    let within : cpu < length c.self.inside.works.slots =
    subst (λ n. cpu < n) (sym c.self.invariant.stands.cpus)
    (subst (λ (s : Seen). cpu < length s.image.cpus) (sym c.self.view_is) c.requires) in
    ap (λ (s : Seat). s.tally) (c.behind-self.view_is ∙ c.index.ensures)
    ∙ reads_tally _ _ _ c.self.invariant.stands _ cpu _ (ap (λ (i : Inside). i.works.slots) c.self-inside.view_is) within
    ∙ ap (λ (s : Seen). tally_at (state_of s) cpu) c.self.view_is

pub returns-clause-short : goal.returns-clause-short
returns-clause-short c =
    subst (λ n. n < 4294967296)
    (ap (λ (t : State). length t.history) (sym (reads_state _ _ _ c.self.invariant.stands))
    ∙ ap (λ (s : Seen). length (state_of s).history) c.self.view_is)
    (history_is_short _ c.self.inside.works _ c.self.invariant.stands)
