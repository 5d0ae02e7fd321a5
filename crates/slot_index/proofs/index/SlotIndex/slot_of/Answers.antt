use Rattle.std.proofs.Common.{◌≡◌, ◌≢◌, ◌<◌, length, get_or, Some, sym, ap, ◌∙◌, arith}
use Rattle.std.proofs.lemmas.List.{get_or_read}
use Rattle.slot_index.specs.Slots.{Slots, slot_in}
use Rattle.slot_index.proofs.Indexed.{told_slot, told_none, past_none}
use Rattle.slot_index.proofs.index.SlotIndex.slot_of.Goals as goal
use Rattle.slot_index.proofs.index.SlotIndex.slot_of.Goals.{else-slot-len-via-then-slot-len+else-index-key}
use Rattle.slot_index.proofs.index.SlotIndex.slot_of.Goals.{else-slot-len-via-else-slot-len}

pub returns-then-key-len-clause-value : goal.returns-then-key-len-clause-value
returns-then-key-len-clause-value c =
    sym (past_none c.self.invariant c.args.key (omega arith))
    ∙ ap (λ (v : Slots). slot_in v.keys c.args.key) c.self.view_is

pub returns-then-index-key-clause-value : goal.returns-then-index-key-clause-value
returns-then-index-key-clause-value c =
    let keys = c.self.inside.keys.items in
    let told : get_or c.self.inside.slots.items c.args.key
    0 ≡ c.from-slot.result = sym (c.from-slot.ensures
    ∙ get_or_read c.self.inside.slots.items c.args.key c.index.result.now (omega arith) c.index.ensures
    0) in
    let here : get_or keys c.from-slot.result
    0 ≡ c.args.key = sym (get_or_read keys c.from-slot.result c.index-then-slot-len.result.now
    (omega arith) c.index-then-slot-len.ensures 0) ∙ c.if-index-key.true in
    ap Some (sym told)
    ∙ sym (told_slot c.self.invariant c.args.key (omega (arith, told))
    (ap (λ s. get_or keys s 0) told ∙ here))
    ∙ ap (λ (v : Slots). slot_in v.keys c.args.key) c.self.view_is

pub returns-clause-value : goal.returns-clause-value
returns-clause-value c =
    let keys = c.self.inside.keys.items in
    let told : get_or c.self.inside.slots.items c.args.key
    0 ≡ c.from-slot.result = sym (c.from-slot.ensures
    ∙ get_or_read c.self.inside.slots.items c.args.key c.index.result.now (omega arith) c.index.ensures
    0) in
    let off : get_or c.self.inside.slots.items c.args.key 0 < length keys
    → get_or keys (get_or c.self.inside.slots.items c.args.key 0) 0 ≢ c.args.key =
    elim c.else-slot-len.branch [
      | else-slot-len-via-then-slot-len+else-index-key w ↦ λ lt e.
          w.if-index-key.false (get_or_read keys c.from-slot.result w.index-then-slot-len.result.now
          (omega (arith, told, lt)) w.index-then-slot-len.ensures 0
          ∙ ap (λ s. get_or keys s 0) (sym told) ∙ e)
      | else-slot-len-via-else-slot-len w ↦ λ lt e. absurd (omega (arith, told, lt, w.if-slot-len.false))
    ] in
    sym (told_none c.self.invariant c.args.key off)
    ∙ ap (λ (v : Slots). slot_in v.keys c.args.key) c.self.view_is

pub returns-then-index-key-clause-within : goal.returns-then-index-key-clause-within
returns-then-index-key-clause-within c =
    omega (arith, c.self.invariant.few, ap (λ (v : Slots). v.most) c.self.view_is)
