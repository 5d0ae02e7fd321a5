use Rattle.std.proofs.Common.{◌≡◌, ℕ}
use Rattle.std.proofs.Common.{List}
use Rattle.std.proofs.Common.{sym, ap, ◌∙◌}
use Rattle.store_cache.specs.Sizes.{block_doublewords}
use Rattle.store_cache.specs.Overlay.{bytes_through}
use Rattle.store_cache.specs.Stores.{Stores, lasting_bytes}
use Rattle.store_cache.specs.Entries.{items_of, stores_of}
use Rattle.store_cache.proofs.Kept.{shown, stores_of-now}
use Rattle.store_cache.proofs.cache.StoreCache.abort.Goals as goal

pub returns-clause-bytes : goal.returns-clause-bytes
returns-clause-bytes g c =
    let now : stores_of c.args.self.now ≡ shown c.self.inside.index.keys c.self.inside.bytes.items
    c.self.inside.marks c.self.inside.values.items c.self.inside.value_marks =
    stores_of-now c.args.self.now c.self.inside.index.keys c.self.inside.bytes.items c.self.inside.marks
    c.self.inside.values.items c.self.inside.value_marks c.self.view_is in
    c.lay_values.ensures
    ∙ ap (λ (values : List ℕ). bytes_through
    (lasting_bytes (items_of block_doublewords c.self.inside.index.keys values c.self.inside.value_marks))
    (g.V.Bytes.bytes c.args.into.now)) c.deref.ensures.value
    ∙ ap (λ (s : Stores). bytes_through (lasting_bytes s.lasting) (g.V.Bytes.bytes c.args.into.now)) (sym now)
