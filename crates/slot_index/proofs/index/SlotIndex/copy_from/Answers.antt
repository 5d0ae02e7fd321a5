use Rattle.std.proofs.Common.{◌≡◌, take, get_or, Some, sym, ap, ◌∙◌, arith}
use Rattle.slot_index.specs.Slots.{Slots, slot_in}
use Rattle.slot_index.proofs.Found.{slot_in-take}
use Rattle.slot_index.proofs.index.SlotIndex.copy_from.Goals as goal

pub add-requires-clause-absent : goal.add-requires-clause-absent
add-requires-clause-absent c =
    let keys = c.args.other.now.keys in
    let slot = c.loop-slot.slot in
    let told : slot_in keys (get_or keys slot 0) ≡ Some slot = ap (slot_in keys) (sym c.key_at.ensures.value)
    ∙ c.key_at.ensures.slot in
    ap (λ (v : Slots). slot_in v.keys c.key_at.result) c.loop-slot.invariant
    ∙ ap (slot_in (take slot keys)) c.key_at.ensures.value
    ∙ slot_in-take keys slot (omega arith) told
