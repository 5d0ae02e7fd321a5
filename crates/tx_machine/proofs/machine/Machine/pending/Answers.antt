-- What is kept is what the recorded events mean.
use Rattle.std.proofs.Common.{◌<◌, sym, ap, ◌∙◌, subst, length}
use Rattle.std.specs.Prelude.{get_or}
use Rattle.std.proofs.lemmas.List.{get_or_default}
use Rattle.std.specs.Arc.{arc_value}
use Rattle.tx_meaning.specs.Limits.{Setting}
use Rattle.tx_home.specs.Parts.{local_of}
use Rattle.tx_serial.specs.Flat.{address_of}
use Rattle.tx_meaning.specs.State.{flat_of}
use Rattle.tx_home.specs.Works.{Seat}
use Rattle.tx_machine.specs.Machine.{Seen, setting_of, state_of, nobody}
use Rattle.tx_machine.specs.declared.machine.Machine.TheInside.{Inside}
use Rattle.tx_machine.proofs.Read.{reads_pending}
use Rattle.tx_machine.proofs.machine.Machine.pending.Goals as goal

pub returns : goal.returns
returns c =
    let m : Setting = record { image = arc_value c.self.inside.program; limits = c.self.inside.limits } in
    let cpu = c.args.cpu in
    let within : cpu < length c.self.inside.works.slots =
    subst (λ n. cpu < n) (sym c.self.invariant.stands.cpus)
    (subst (λ (s : Seen). cpu < length s.image.cpus) (sym c.self.view_is) c.requires) in
    let inner : cpu < _ = subst (λ (i : Inside). cpu < length i.works.slots) (sym c.self-inside.view_is) within in
    c.pending.ensures ∙ ap (λ (s : Seat). address_of (local_of s.cpu).pending) (c.behind-self.view_is ∙ c.index.ensures
    ∙ get_or_default _ cpu _ (nobody m) inner)
    ∙ ap (λ (i : Inside). address_of (local_of (get_or i.works.slots cpu (nobody m)).cpu).pending) c.self-inside.view_is
    ∙ sym (ap address_of (reads_pending m c.self.inside.works _ c.self.invariant.stands cpu))
    ∙ ap (λ (s : Seen). address_of ((flat_of (setting_of s) (state_of s)).pending cpu)) c.self.view_is
