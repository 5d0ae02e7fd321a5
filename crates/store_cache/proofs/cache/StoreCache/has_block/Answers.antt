use Rattle.std.proofs.Common.{◌≡◌, ◌/◌, false}
use Rattle.std.proofs.Common.{ℕ, Option, is_some, None, Some, refl, sym, ap, ◌∙◌, arith}
use Rattle.slot_index.specs.Slots.{slot_in}
use Rattle.store_cache.specs.Sizes.{block_size}
use Rattle.store_cache.specs.Overlay.{has_block}
use Rattle.store_cache.specs.Stores.{Stores}
use Rattle.store_cache.specs.Entries.{stores_of}
use Rattle.store_cache.proofs.Cells.{items_of-none}
use Rattle.store_cache.proofs.Kept.{shown, stores_of-now}
use Rattle.store_cache.proofs.cache.StoreCache.has_block.Goals as goal

nothing_there : (slot : Option ℕ) → is_some slot ≡ false → slot ≡ None
nothing_there None _ = refl
nothing_there (Some _) e = grind arith

pub returns-clause-value : goal.returns-clause-value
returns-clause-value c =
    let now : stores_of c.args.self.now ≡ shown c.self.inside.index.keys c.self.inside.bytes.items
    c.self.inside.marks c.self.inside.values.items c.self.inside.value_marks =
    stores_of-now c.args.self.now c.self.inside.index.keys c.self.inside.bytes.items c.self.inside.marks
    c.self.inside.values.items c.self.inside.value_marks c.self.view_is in
    c.is_some.ensures ∙ ap is_some c.slot_of.ensures.value
    ∙ sym (ap (λ (s : Stores). has_block s.overlay c.args.block) now
    ∙ c.self.invariant.stored c.args.block)

pub returns-clause-bare : goal.returns-clause-bare
returns-clause-bare c = λ none address e.
    let now : stores_of c.args.self.now ≡ shown c.self.inside.index.keys c.self.inside.bytes.items
    c.self.inside.marks c.self.inside.values.items c.self.inside.value_marks =
    stores_of-now c.args.self.now c.self.inside.index.keys c.self.inside.bytes.items c.self.inside.marks
    c.self.inside.values.items c.self.inside.value_marks c.self.view_is in
    let absent : slot_in c.self.inside.index.keys (address / block_size) ≡ None =
    ap (slot_in c.self.inside.index.keys) e
    ∙ nothing_there (slot_in c.self.inside.index.keys c.args.block)
    (ap is_some (sym c.slot_of.ensures.value) ∙ sym c.is_some.ensures ∙ none) in
    ap (λ (s : Stores). s.overlay address) now
    ∙ items_of-none block_size c.self.inside.index.keys c.self.inside.bytes.items c.self.inside.marks address
    absent
