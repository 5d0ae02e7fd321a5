-- A byte is changed at its absolute address.
use Rattle.std.proofs.Common.{◌<◌, set, ap, sym, ◌∙◌, subst}
use Rattle.z_regs.specs.Prefix.{storage_size}
use Rattle.z_regs.specs.Seen.{seen_by}
use Rattle.z_regs.proofs.Exchange.{seen_set, absolute_within}
use Rattle.z_regs.proofs.real.RealView.put_byte.Goals as goal

pub put-requires : goal.put-requires
put-requires g c =
    let view = c.args.self.now in
    let within = absolute_within view.prefix c.args.address view.prefix_in c.requires in
    subst (λ n. c.place_of.result < n) (sym view.sized)
    (subst (λ a. a < storage_size) (sym c.place_of.ensures) within)

pub returns : goal.returns
returns g c =
    let view = c.args.self.now in
    let below = g.V.Bytes.bytes view.below in
    ap (seen_by view.prefix) (c.put.ensures ∙ ap (λ a. set below a c.args.byte) c.place_of.ensures)
    ∙ seen_set view.prefix below c.args.address c.args.byte view.prefix_in view.sized c.requires
