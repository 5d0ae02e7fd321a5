use Rattle.std.proofs.Common.{◌≡◌, true, false, ltb}
use Rattle.std.proofs.Common.{is_some}
use Rattle.std.proofs.Common.{sym, ap, ◌∙◌}
use Rattle.std.specs.Prelude.{◌||◌}
use Rattle.std.proofs.lemmas.Bool.{or_left}
use Rattle.slot_index.specs.Slots.{is_key}
use Rattle.store_cache.specs.Sizes.{block_size, block_limit}
use Rattle.store_cache.specs.Overlay.{Overlay, has_block, block_count}
use Rattle.store_cache.specs.Stores.{Stores, has_room}
use Rattle.store_cache.specs.Entries.{items_of, stores_of}
use Rattle.store_cache.proofs.Kept.{shown, stores_of-now, counted_blocks}
use Rattle.store_cache.proofs.cache.StoreCache.has_room.Goals as goal

pub returns-then-is_some : goal.returns-then-is_some
returns-then-is_some c =
    let now : stores_of c.args.self.now ≡ shown c.self.inside.index.keys c.self.inside.bytes.items
    c.self.inside.marks c.self.inside.values.items c.self.inside.value_marks =
    stores_of-now c.args.self.now c.self.inside.index.keys c.self.inside.bytes.items c.self.inside.marks
    c.self.inside.values.items c.self.inside.value_marks c.self.view_is in
    let overlay : Overlay = items_of block_size c.self.inside.index.keys c.self.inside.bytes.items
    c.self.inside.marks in
    let key : is_key c.self.inside.index.keys c.args.block ≡ true = ap is_some (sym c.slot_of.ensures.value)
    ∙ sym c.is_some.ensures ∙ c.if-is_some.true in
    c.if-is_some.true
    ∙ sym (ap (λ (s : Stores). has_room s.overlay c.args.block) now
    ∙ or_left (has_block overlay c.args.block) (ltb (block_count overlay) block_limit)
    (c.self.invariant.stored c.args.block ∙ key))

pub returns-else-is_some : goal.returns-else-is_some
returns-else-is_some c =
    let now : stores_of c.args.self.now ≡ shown c.self.inside.index.keys c.self.inside.bytes.items
    c.self.inside.marks c.self.inside.values.items c.self.inside.value_marks =
    stores_of-now c.args.self.now c.self.inside.index.keys c.self.inside.bytes.items c.self.inside.marks
    c.self.inside.values.items c.self.inside.value_marks c.self.view_is in
    let overlay : Overlay = items_of block_size c.self.inside.index.keys c.self.inside.bytes.items
    c.self.inside.marks in
    let key : is_key c.self.inside.index.keys c.args.block ≡ false = ap is_some (sym c.slot_of.ensures.value)
    ∙ sym c.is_some.ensures ∙ c.if-is_some.false in
    let number : c.count.result ≡ block_count overlay = c.count.ensures.keys
    ∙ counted_blocks c.self.inside.index c.self.inside.bytes.items c.self.inside.marks
    c.self.inside.values.items c.self.inside.value_marks c.self.invariant in
    ap (λ n. ltb n block_limit) number
    ∙ sym (ap (λ (s : Stores). has_room s.overlay c.args.block) now
    ∙ ap (λ b. b || ltb (block_count overlay) block_limit) (c.self.invariant.stored c.args.block ∙ key))
