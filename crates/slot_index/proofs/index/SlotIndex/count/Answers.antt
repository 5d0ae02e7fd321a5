use Rattle.std.proofs.Common.{◌≡◌, length, sym, ap, ◌∙◌, arith}
use Rattle.bit_set.specs.Counts.{count_below}
use Rattle.slot_index.specs.Slots.{Slots, is_key, slot_in}
use Rattle.slot_index.proofs.Indexed.{counted, one_slot, past_none}
use Rattle.slot_index.proofs.index.SlotIndex.count.Goals as goal

pub returns-clause-keys : goal.returns-clause-keys
returns-clause-keys c =
    let size : c.len.result ≡ length c.self.inside.keys.items = omega arith in
    size ∙ sym (counted _ c.self.inside.keys.items (one_slot c.self.invariant) c.self.invariant.below)
    ∙ ap (λ (v : Slots). count_below v.limit (is_key v.keys)) c.self.view_is

pub returns-clause-below : goal.returns-clause-below
returns-clause-below c key past =
    ap (λ (v : Slots). slot_in v.keys key) (sym c.self.view_is)
    ∙ past_none c.self.invariant key (omega (arith, past, ap (λ (v : Slots). v.limit) c.self.view_is))
