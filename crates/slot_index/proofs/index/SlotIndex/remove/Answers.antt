use Rattle.std.proofs.Common.{◌<◌, length, ap, ◌∙◌, arith}
use Rattle.slot_index.specs.Slots.{Slots, slot_in, slot_without}
use Rattle.slot_index.proofs.Indexed.{slot_in-removed}
use Rattle.slot_index.proofs.index.SlotIndex.remove.Goals as goal

pub returns-then-slot-len-clause-slots : goal.returns-then-slot-len-clause-slots
returns-then-slot-len-clause-slots c key =
    let under : c.args.slot < length c.self.inside.keys.items = omega
    (arith, c.requires, ap (λ (v : Slots). length v.keys) c.self.view_is) in
    ap (λ keys. slot_in keys key) c.swap_remove.ensures.items
    ∙ slot_in-removed c.self.invariant c.args.slot c.swap_remove.result key under
    ∙ ap (λ (v : Slots). slot_without v.keys c.args.slot key) c.self.view_is

pub returns-else-slot-len-clause-slots : goal.returns-else-slot-len-clause-slots
returns-else-slot-len-clause-slots c key =
    let under : c.args.slot < length c.self.inside.keys.items = omega
    (arith, c.requires, ap (λ (v : Slots). length v.keys) c.self.view_is) in
    ap (λ keys. slot_in keys key) c.swap_remove.ensures.items
    ∙ slot_in-removed c.self.invariant c.args.slot c.swap_remove.result key under
    ∙ ap (λ (v : Slots). slot_without v.keys c.args.slot key) c.self.view_is
