use Rattle.std.proofs.Common.{◌≡◌, sym, ap, subst, ◌∙◌, arith}
use Rattle.bit_set.specs.Counts.{count_below}
use Rattle.slot_index.specs.Slots.{is_key}
use Rattle.l1_data.specs.Copies.{copies_of, copy_count, IsSound}
use Rattle.l1_data.proofs.Slotted.{copy_at, copies_of-kept, counted_copies, sound}
use Rattle.l1_data.proofs.copies.L1.count.Goals as goal

pub returns-clause-value : goal.returns-clause-value
returns-clause-value c =
    let now : copies_of c.args.self.now ≡ copy_at c.self.inside.index.keys
    c.self.inside.copies.items = copies_of-kept c.args.self.now c.self.inside.index.keys
    c.self.inside.copies.items c.self.view_is in
    c.count.ensures.keys ∙ ap (λ n. count_below n (is_key c.self.inside.index.keys)) c.self.invariant.limit
    ∙ counted_copies c.self.inside.index.keys c.self.inside.copies.items ∙ ap copy_count (sym now)

pub returns-clause-sound : goal.returns-clause-sound
returns-clause-sound c =
    let now : copies_of c.args.self.now ≡ copy_at c.self.inside.index.keys
    c.self.inside.copies.items = copies_of-kept c.args.self.now c.self.inside.index.keys
    c.self.inside.copies.items c.self.view_is in
    subst IsSound (sym now) (sound c.self.inside.index c.self.inside.copies.items c.self.invariant
    (omega (arith, c.count.ensures.value, c.count.ensures.within))
    (sym c.count.ensures.value ∙ c.count.ensures.keys) c.count.ensures.below)
