-- What is kept is what the recorded events mean.
use Rattle.std.proofs.Common.{◌<◌, sym, ap, ◌∙◌, subst, length}
use Rattle.std.specs.Prelude.{List, get_or}
use Rattle.tx_journal.specs.declared.entries.Entry.{Entry}
use Rattle.std.proofs.lemmas.List.{get_or_default}
use Rattle.std.specs.Arc.{arc_value}
use Rattle.tx_meaning.specs.Limits.{Setting}
use Rattle.tx_meaning.specs.State.{State}
use Rattle.tx_meaning.specs.Shown.{counts_at}
use Rattle.tx_machine.specs.Machine.{counts_with}
use Rattle.tx_home.specs.Works.{Seat}
use Rattle.tx_machine.specs.Machine.{Seen, state_of, nobody}
use Rattle.tx_machine.specs.declared.machine.Machine.TheInside.{Inside}
use Rattle.tx_machine.proofs.Read.{reads_state}
use Rattle.tx_machine.proofs.Going.{history_is_short}
use Rattle.tx_machine.proofs.machine.Machine.counts.Goals as goal

pub returns : goal.returns
returns c =
    let m : Setting = record { image = arc_value c.self.inside.program; limits = c.self.inside.limits } in
    let cpu = c.args.cpu in
    let within : cpu < length c.self.inside.works.slots =
    subst (λ n. cpu < n) (sym c.self.invariant.stands.cpus)
    (subst (λ (s : Seen). cpu < length s.image.cpus) (sym c.self.view_is) c.requires) in
    let inner : cpu < _ = subst (λ (i : Inside). cpu < length i.works.slots) (sym c.self-inside.view_is) within in
    c.counts_of.ensures ∙ ap (λ (h : List Entry). counts_with c.behind-self.inside.tally h cpu)
    (c.as_slice.ensures.value ∙ ap (λ (i : Inside). i.works.history) c.self-inside.view_is)
    ∙ ap (λ (s : Seat). counts_with s.tally c.self.inside.works.history cpu)
    (c.behind-self.view_is ∙ c.index.ensures ∙ get_or_default _ cpu _ (nobody m) inner
    ∙ ap (λ (i : Inside). get_or i.works.slots cpu (nobody m)) c.self-inside.view_is)
    ∙ sym (ap (λ (t : State). counts_at t cpu) (reads_state m c.self.inside.works _ c.self.invariant.stands))
    ∙ ap (λ (s : Seen). counts_at (state_of s) cpu) c.self.view_is

pub counts_of-requires : goal.counts_of-requires
counts_of-requires c =
    subst (λ n. n < 4294967296)
    (sym (ap length c.as_slice.ensures.value ∙ ap (λ (i : Inside). length i.works.history) c.self-inside.view_is))
    (history_is_short _ c.self.inside.works _ c.self.invariant.stands)
