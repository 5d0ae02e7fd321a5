use Rattle.std.proofs.Common.{◌≡◌, ◌∷◌, ◌++◌, [], ℕ, List, ◌<◌, length, is_ok, set, true, None, sym, ap}
use Rattle.std.proofs.Common.{subst, ◌∙◌, arith}
use Rattle.std.proofs.lemmas.Bool.{cond-true}
use Rattle.std.specs.Vec.{vec_capacity}
use Rattle.slot_index.specs.Slots.{Slots, slot_in, IsIndexed}
use Rattle.slot_index.proofs.Indexed.{added, wider}
use Rattle.slot_index.proofs.index.SlotIndex.add.Goals as goal

pub invariant_of-self : goal.invariant_of-self
invariant_of-self c =
    let keys = c.self.inside.keys.items in
    let slots = c.self.inside.slots.items in
    let room : length keys < c.self.inside.most = omega (
      arith,
      c.requires.room,
      ap (λ (v : Slots). length v.keys) c.self.view_is,
      ap (λ (v : Slots). v.most)
          c.self.view_is,
    ) in
    let below : c.args.key < length slots = omega
    (arith, c.requires.below, ap (λ (v : Slots). v.limit) c.self.view_is) in
    let absent : slot_in keys c.args.key ≡ None = ap (λ (v : Slots). slot_in v.keys c.args.key)
    c.self.view_is ∙ c.requires.absent in
    let ok : is_ok c.push.result ≡ true = c.push.ensures.succeeds
    (omega (arith, room, c.self.invariant.reserved)) in
    let size : length keys ≡ c.len.result = omega arith in
    let after : keys ++ c.args.key ∷ [] ≡ c.push.new.self.items = sym (c.push.ensures.items
    ∙ cond-true (is_ok c.push.result) (keys ++ c.args.key ∷ []) keys ok) in
    let kept = wider (added c.self.invariant c.args.key below room absent) (vec_capacity c.push.new.self)
    c.push.ensures.capacity in
    let by_size = subst (λ n. IsIndexed (set slots c.args.key n) (keys ++ c.args.key ∷ []) c.self.inside.most
    (vec_capacity c.push.new.self)) size kept in
    subst (λ (now : List ℕ). IsIndexed (set slots c.args.key c.len.result) now c.self.inside.most
    (vec_capacity c.push.new.self)) after by_size
