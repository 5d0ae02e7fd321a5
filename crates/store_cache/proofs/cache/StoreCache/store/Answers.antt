use Rattle.std.proofs.Common.{◌≡◌, ◌+◌, ◌*◌, ◌/◌, ◌%◌, Bool, true}
use Rattle.std.proofs.Common.{List, set}
use Rattle.std.proofs.Common.{refl, sym, ap, subst, ◌∙◌, arith}
use Rattle.store_cache.specs.Sizes.{block_size, block_doublewords}
use Rattle.store_cache.specs.Overlay.{Overlay, with_one}
use Rattle.store_cache.specs.Stores.{Stores, with_store, has_room}
use Rattle.store_cache.specs.Entries.{items_of, stores_of, IsKept}
use Rattle.store_cache.proofs.Kept.{shown, stores_of-is, stores_of-now, entry_left}
use Rattle.store_cache.proofs.Kept.{entered, byte_shown, byte_kept}
use Rattle.store_cache.proofs.cache.StoreCache.store.Goals as goal

pub slot_for-slot-requires-clause-room : goal.slot_for-slot-requires-clause-room
slot_for-slot-requires-clause-room c =
    entry_left c.self.inside.index c.self.inside.bytes.items c.self.inside.marks c.self.inside.values.items
    c.self.inside.value_marks (c.args.address / block_size) c.self.invariant
    (ap (λ (s : Stores). has_room s.overlay (c.args.address / block_size))
    (sym (stores_of-now c.args.self.now c.self.inside.index.keys c.self.inside.bytes.items c.self.inside.marks
    c.self.inside.values.items c.self.inside.value_marks c.self.view_is)) ∙ c.requires.room)

pub invariant_of-self : goal.invariant_of-self
invariant_of-self c =
    let in_entry = entered c.self.inside.index c.slot_for-slot.new.index c.self.inside.bytes.items
    c.self.inside.marks c.self.inside.values.items c.self.inside.value_marks
    (c.args.address / block_size) c.self.invariant c.slot_for-slot.ensures.index in
    let cell = c.slot_for-slot.result * block_size + c.args.address % block_size in
    subst (λ (marks : List Bool). IsKept c.slot_for-slot.new.index
    (set c.self.inside.bytes.items cell c.args.byte) marks c.self.inside.values.items
    c.self.inside.value_marks) (sym c.insert.ensures)
    (byte_kept c.self.inside.index c.slot_for-slot.new.index c.self.inside.bytes.items c.self.inside.marks
    c.self.inside.values.items c.self.inside.value_marks c.args.address c.slot_for-slot.result cell
    c.args.byte c.self.invariant in_entry c.slot_for-slot.ensures.slot refl
    (omega (arith, c.slot_for-slot.ensures.within, c.self.invariant.most)))

pub returns : goal.returns
returns c =
    let now : stores_of c.args.self.now ≡ shown c.self.inside.index.keys c.self.inside.bytes.items
    c.self.inside.marks c.self.inside.values.items c.self.inside.value_marks =
    stores_of-now c.args.self.now c.self.inside.index.keys c.self.inside.bytes.items c.self.inside.marks
    c.self.inside.values.items c.self.inside.value_marks c.self.view_is in
    let in_entry = entered c.self.inside.index c.slot_for-slot.new.index c.self.inside.bytes.items
    c.self.inside.marks c.self.inside.values.items c.self.inside.value_marks
    (c.args.address / block_size) c.self.invariant c.slot_for-slot.ensures.index in
    let cell = c.slot_for-slot.result * block_size + c.args.address % block_size in
    let bytes : items_of block_size c.slot_for-slot.new.index.keys
    (set c.self.inside.bytes.items cell c.args.byte) (set c.self.inside.marks cell true) ≡ with_one
    (items_of block_size c.self.inside.index.keys c.self.inside.bytes.items c.self.inside.marks)
    c.args.address c.args.byte =
    byte_shown c.self.inside.index c.slot_for-slot.new.index c.self.inside.bytes.items c.self.inside.marks
    c.self.inside.values.items c.self.inside.value_marks c.args.address c.slot_for-slot.result cell
    c.args.byte c.self.invariant in_entry c.slot_for-slot.ensures.slot refl
    (omega (arith, c.slot_for-slot.ensures.within, c.self.invariant.most)) in
    stores_of-is c.slot_for-slot.new.index.keys (set c.self.inside.bytes.items cell c.args.byte)
    c.insert.new.self c.self.inside.values.items c.self.inside.value_marks
    ∙ ap (λ (marks : List Bool). shown c.slot_for-slot.new.index.keys
    (set c.self.inside.bytes.items cell c.args.byte) marks c.self.inside.values.items
    c.self.inside.value_marks) c.insert.ensures
    ∙ ap (λ (o : Overlay). record {
      overlay = o;
      lasting =
          items_of block_doublewords c.slot_for-slot.new.index.keys c.self.inside.values.items
          c.self.inside.value_marks;
    }) bytes
    ∙ ap (λ (o : Overlay). record {
      overlay =
          with_one (items_of block_size c.self.inside.index.keys c.self.inside.bytes.items c.self.inside.marks)
          c.args.address c.args.byte;
      lasting = o;
    }) in_entry.same_values
    ∙ ap (λ (s : Stores). with_store s c.args.address c.args.byte) (sym now)
