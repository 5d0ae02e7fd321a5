-- What the next turn wants is said of what is kept, and so of what the recorded events mean.
use Rattle.std.proofs.Common.{◌<◌, sym, ap, ◌∙◌, subst, length}
use Rattle.std.specs.Arc.{arc_value}
use Rattle.tx_meaning.specs.Limits.{Setting}
use Rattle.tx_machine.specs.Machine.{Seen, setting_of, state_of, nobody}
use Rattle.tx_journal.specs.Content.{Content}
use Rattle.tx_home.specs.Wanted.{MayWant, wanted, wanted_by}
use Rattle.tx_home.specs.Works.{kept_by}
use Rattle.tx_machine.proofs.Going.{wants}
use Rattle.tx_machine.proofs.Read.{reads_wanted}
use Rattle.tx_machine.proofs.machine.Machine.wanted.Goals as goal

pub wanted-requires-clause-wants : goal.wanted-requires-clause-wants
wanted-requires-clause-wants c = λ rest limits.
    let m : Setting = record { image = arc_value c.self.inside.program; limits = c.self.inside.limits } in
    let within : c.args.cpu < length c.self.inside.works.slots =
    subst (λ n. c.args.cpu < n) (sym c.self.invariant.stands.cpus)
    (subst (λ (s : Seen). c.args.cpu < length s.image.cpus) (sym c.self.view_is) c.requires) in
    let h = wants m c.self.inside.works _ c.self.invariant.stands rest c.args.cpu within in
    subst (λ (i : Content). MayWant (record { image = i; limits = limits }) (kept_by rest c.self.inside.works).storage
    ((kept_by rest c.self.inside.works).locals c.args.cpu)) (sym c.deref.ensures)
    record { inside = h.inside; reach = h.reach; text = h.text }

pub returns-clause-value : goal.returns-clause-value
returns-clause-value c =
    let m : Setting = record { image = arc_value c.self.inside.program; limits = c.self.inside.limits } in
    let k = kept_by (nobody m) c.self.inside.works in
    c.wanted.ensures.value (nobody m) m.limits
    ∙ ap (λ (i : Content). wanted_by (record { image = i; limits = m.limits }) k.storage (k.locals c.args.cpu))
    c.deref.ensures
    ∙ sym (reads_wanted m c.self.inside.works _ c.self.invariant.stands c.args.cpu)
    ∙ ap (λ (s : Seen). wanted (setting_of s) (state_of s) c.args.cpu) c.self.view_is
