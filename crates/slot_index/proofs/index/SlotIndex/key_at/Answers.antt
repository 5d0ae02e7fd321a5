use Rattle.std.proofs.Common.{◌<◌, length, sym, ap, ◌∙◌, arith}
use Rattle.std.proofs.lemmas.List.{get_or_read}
use Rattle.slot_index.specs.Slots.{Slots, slot_in}
use Rattle.slot_index.proofs.Found.{slot_in-one}
use Rattle.slot_index.proofs.Indexed.{one_slot}
use Rattle.slot_index.proofs.index.SlotIndex.key_at.Goals as goal

pub returns-clause-slot : goal.returns-clause-slot
returns-clause-slot c =
    let keys = c.self.inside.keys.items in
    let under : c.args.slot < length keys = omega
    (arith, c.requires, ap (λ (v : Slots). length v.keys) c.self.view_is) in
    ap (λ (v : Slots). slot_in v.keys c.index.result.now) (sym c.self.view_is)
    ∙ ap (slot_in keys) (get_or_read keys c.args.slot c.index.result.now under c.index.ensures 0)
    ∙ slot_in-one keys (one_slot c.self.invariant) c.args.slot under
