-- A byte is read at its absolute address.
use Rattle.std.proofs.Common.{◌<◌, sym, ◌∙◌, subst}
use Rattle.z_regs.specs.Prefix.{storage_size}
use Rattle.z_regs.proofs.Exchange.{seen_at, absolute_within, to_place}
use Rattle.z_regs.proofs.real.RealView.byte.Goals as goal

pub get-requires : goal.get-requires
get-requires g c =
    let view = c.args.self.now in
    let within = absolute_within view.prefix c.args.address view.prefix_in c.requires in
    subst (λ n. c.place_of.result < n) (sym view.sized)
    (subst (λ a. a < storage_size) (sym c.place_of.ensures) within)

pub returns : goal.returns
returns g c =
    let view = c.args.self.now in
    c.get.ensures ∙ to_place _ _ _ c.place_of.ensures
    ∙ sym (seen_at view.prefix _ c.args.address view.prefix_in view.sized c.requires)
