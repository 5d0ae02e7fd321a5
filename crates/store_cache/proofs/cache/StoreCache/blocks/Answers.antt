use Rattle.std.proofs.Common.{◌≡◌}
use Rattle.std.proofs.Common.{sym, ap, subst, ◌∙◌, arith}
use Rattle.store_cache.specs.Overlay.{block_count}
use Rattle.store_cache.specs.Stores.{Stores}
use Rattle.store_cache.specs.Stores.{IsSound}
use Rattle.store_cache.specs.Entries.{stores_of}
use Rattle.store_cache.proofs.Kept.{shown, stores_of-now, counted_blocks, sound}
use Rattle.store_cache.proofs.cache.StoreCache.blocks.Goals as goal

pub returns-clause-value : goal.returns-clause-value
returns-clause-value c =
    let now : stores_of c.args.self.now ≡ shown c.self.inside.index.keys c.self.inside.bytes.items
    c.self.inside.marks c.self.inside.values.items c.self.inside.value_marks =
    stores_of-now c.args.self.now c.self.inside.index.keys c.self.inside.bytes.items c.self.inside.marks
    c.self.inside.values.items c.self.inside.value_marks c.self.view_is in
    c.count.ensures.keys ∙ counted_blocks c.self.inside.index c.self.inside.bytes.items c.self.inside.marks
    c.self.inside.values.items c.self.inside.value_marks c.self.invariant
    ∙ ap (λ (s : Stores). block_count s.overlay) (sym now)

pub returns-clause-sound : goal.returns-clause-sound
returns-clause-sound c =
    let now : stores_of c.args.self.now ≡ shown c.self.inside.index.keys c.self.inside.bytes.items
    c.self.inside.marks c.self.inside.values.items c.self.inside.value_marks =
    stores_of-now c.args.self.now c.self.inside.index.keys c.self.inside.bytes.items c.self.inside.marks
    c.self.inside.values.items c.self.inside.value_marks c.self.view_is in
    subst IsSound (sym now) (sound c.self.inside.index c.self.inside.bytes.items c.self.inside.marks
    c.self.inside.values.items c.self.inside.value_marks c.self.invariant
    (omega (arith, c.count.ensures.keys, c.count.ensures.within)) c.count.ensures.below)
