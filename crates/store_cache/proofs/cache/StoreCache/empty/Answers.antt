use Rattle.std.proofs.Common.{List, Bool, false, length, get_or, ap, ◌∙◌}
use Rattle.std.proofs.lemmas.List.{length-replicate}
use Rattle.slot_index.specs.Slots.{Slots}
use Rattle.store_cache.proofs.Kept.{shown, stores_of-is, shown-empty}
use Rattle.bit_set.proofs.Marks.{blank_at}
use Rattle.store_cache.proofs.Kept.{emptied}
use Rattle.store_cache.proofs.cache.StoreCache.empty.Goals as goal

pub invariant_of-self : goal.invariant_of-self
invariant_of-self c =
    emptied c.clear-3.new.self c.self.inside.bytes.items c.clear.new.self c.self.inside.values.items
    c.clear-2.new.self
    (ap (λ (v : Slots). v.limit) c.clear-3.ensures ∙ c.self.invariant.limit)
    (ap (λ (v : Slots). v.most) c.clear-3.ensures ∙ c.self.invariant.most)
    c.self.invariant.byte_room
    (ap length c.clear.ensures ∙ length-replicate (length c.self.inside.marks) false ∙ c.self.invariant.mark_room)
    c.self.invariant.value_room
    (ap length c.clear-2.ensures ∙ length-replicate (length c.self.inside.value_marks) false
    ∙ c.self.invariant.value_mark_room)
    (ap (λ (v : Slots). v.keys) c.clear-3.ensures)
    (λ k. ap (λ (ms : List Bool). get_or ms k false) c.clear.ensures ∙ blank_at _ k false)
    (λ k. ap (λ (ms : List Bool). get_or ms k false) c.clear-2.ensures
    ∙ blank_at _ k false)

pub returns : goal.returns
returns c =
    stores_of-is c.clear-3.new.self.keys c.self.inside.bytes.items c.clear.new.self
    c.self.inside.values.items c.clear-2.new.self
    ∙ ap (λ (v : Slots). shown v.keys c.self.inside.bytes.items c.clear.new.self c.self.inside.values.items
    c.clear-2.new.self) c.clear-3.ensures
    ∙ shown-empty c.self.inside.bytes.items c.clear.new.self c.self.inside.values.items c.clear-2.new.self
