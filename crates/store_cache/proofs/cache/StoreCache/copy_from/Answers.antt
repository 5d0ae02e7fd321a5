-- Entries in use are those of the other cache, and no others matter.
use Rattle.std.proofs.Common.{◌≡◌, ◌*◌, List, ℕ, Bool, length, take, sym, ap, subst, ◌∙◌}
use Rattle.std.proofs.lemmas.List.{with_items_is}
use Rattle.slot_index.specs.Slots.{Slots}
use Rattle.store_cache.specs.Sizes.{block_size, block_doublewords}
use Rattle.store_cache.specs.Entries.{IsKept}
use Rattle.store_cache.proofs.Kept.{shown, stores_of-is, stores_of-now, front_kept, front_shown}
use Rattle.store_cache.proofs.cache.StoreCache.copy_from.Goals as goal

kept_as : (index was : Slots) (bytes were : List ℕ) (marks set : List Bool) (values had : List ℕ) (value_marks kept : List Bool)
    → index ≡ was → bytes ≡ were → marks ≡ set → values ≡ had → value_marks ≡ kept
    → IsKept was were set had kept → IsKept index bytes marks values value_marks
kept_as index was bytes were marks set values had value_marks kept ei eb em ev ew is =
    subst (λ i. IsKept i bytes marks values value_marks) (sym ei)
    (subst (λ b. IsKept was b marks values value_marks) (sym eb)
    (subst (λ m. IsKept was were m values value_marks) (sym em)
    (subst (λ v. IsKept was were set v value_marks) (sym ev)
    (subst (λ w. IsKept was were set had w) (sym ew) is))))

shown_as : (index was : Slots) (bytes were : List ℕ) (marks set : List Bool) (values had : List ℕ) (value_marks kept : List Bool)
    → index ≡ was → bytes ≡ were → marks ≡ set → values ≡ had → value_marks ≡ kept
    → shown index.keys bytes marks values value_marks ≡ shown was.keys were set had kept
shown_as index was bytes were marks set values had value_marks kept ei eb em ev ew =
    ap (λ (i : Slots). shown i.keys bytes marks values value_marks) ei
    ∙ ap (λ b. shown was.keys b marks values value_marks) eb
    ∙ ap (λ m. shown was.keys were m values value_marks) em
    ∙ ap (λ v. shown was.keys were set v value_marks) ev
    ∙ ap (λ w. shown was.keys were set had w) ew

pub invariant_of-self : goal.invariant_of-self
invariant_of-self c =
    let o = c.other.inside in
    let bytes = c.copy_front.new.into in
    let values = c.copy_front-2.new.into in
    let blocks = c.count-blocks.ensures.value in
    let kept : IsKept o.index bytes o.marks values o.value_marks =
    front_kept o.index o.bytes.items o.marks o.values.items o.value_marks bytes values c.other.invariant
    (c.copy_front.ensures.size ∙ ap length c.deref_mut.ensures.value ∙ c.self.invariant.byte_room)
    (c.copy_front-2.ensures.size ∙ ap length c.deref_mut-2.ensures.value ∙ c.self.invariant.value_room)
    (subst (λ n. take (n * block_size) bytes ≡ take (n * block_size) o.bytes.items) blocks
    (c.copy_front.ensures.front ∙ ap (take (c.count-blocks.result * block_size)) c.deref.ensures.value))
    (subst (λ n. take (n * block_doublewords) values ≡ take (n * block_doublewords) o.values.items) blocks
    (c.copy_front-2.ensures.front ∙ ap (take (c.count-blocks.result * block_doublewords)) c.deref-2.ensures.value)) in
    kept_as c.copy_from.new.self o.index _ bytes c.copy_from-2.new.self o.marks _ values c.copy_from-3.new.self o.value_marks
    c.copy_from.ensures
    (with_items_is c.self.inside.bytes bytes (c.copy_front.ensures.size ∙ c.deref_mut.ensures.len))
    c.copy_from-2.ensures
    (with_items_is c.self.inside.values values (c.copy_front-2.ensures.size ∙ c.deref_mut-2.ensures.len))
    c.copy_from-3.ensures kept

pub returns : goal.returns
returns c =
    let o = c.other.inside in
    let bytes = c.copy_front.new.into in
    let values = c.copy_front-2.new.into in
    let blocks = c.count-blocks.ensures.value in
    stores_of-is c.copy_from.new.self.keys _ c.copy_from-2.new.self _ c.copy_from-3.new.self
    ∙ shown_as c.copy_from.new.self o.index _ bytes c.copy_from-2.new.self o.marks _ values c.copy_from-3.new.self o.value_marks
    c.copy_from.ensures
    (with_items_is c.self.inside.bytes bytes (c.copy_front.ensures.size ∙ c.deref_mut.ensures.len))
    c.copy_from-2.ensures
    (with_items_is c.self.inside.values values (c.copy_front-2.ensures.size ∙ c.deref_mut-2.ensures.len))
    c.copy_from-3.ensures
    ∙ front_shown o.index o.bytes.items o.marks o.values.items o.value_marks bytes values c.other.invariant
    (c.copy_front.ensures.size ∙ ap length c.deref_mut.ensures.value ∙ c.self.invariant.byte_room)
    (c.copy_front-2.ensures.size ∙ ap length c.deref_mut-2.ensures.value ∙ c.self.invariant.value_room)
    (subst (λ n. take (n * block_size) bytes ≡ take (n * block_size) o.bytes.items) blocks
    (c.copy_front.ensures.front ∙ ap (take (c.count-blocks.result * block_size)) c.deref.ensures.value))
    (subst (λ n. take (n * block_doublewords) values ≡ take (n * block_doublewords) o.values.items) blocks
    (c.copy_front-2.ensures.front ∙ ap (take (c.count-blocks.result * block_doublewords)) c.deref-2.ensures.value))
    ∙ sym (stores_of-now c.args.other.now o.index.keys o.bytes.items o.marks o.values.items o.value_marks c.other.view_is)
