use Rattle.std.proofs.Common.{◌≡◌, [], ◌∷◌, ◌++◌, set, Some, None, is_some, sym, ap, ◌∙◌, arith}
use Rattle.bit_set.specs.Counts.{count_below}
use Rattle.slot_index.specs.Slots.{Slots, slot_in, is_key}
use Rattle.l1_data.specs.Copies.{Copies, copies_of, with_copy, copy_count}
use Rattle.l1_data.proofs.Slotted.{copy_at, copies_of-kept, copies_of-is, installed, counted_copies}
use Rattle.l1_data.proofs.Slotted.{none_before}
use Rattle.l1_data.proofs.copies.L1.install.Goals as goal

pub index_mut-copy-requires : goal.index_mut-copy-requires
index_mut-copy-requires c =
    let now : copies_of c.args.self.now ≡ copy_at c.self.inside.index.keys
    c.self.inside.copies.items = copies_of-kept c.args.self.now c.self.inside.index.keys
    c.self.inside.copies.items c.self.view_is in
    let number : c.count-slot.result ≡ copy_count (copies_of c.args.self.now) = c.count-slot.ensures.keys
    ∙ ap (λ n. count_below n (is_key c.self.inside.index.keys)) c.self.invariant.limit
    ∙ counted_copies c.self.inside.index.keys c.self.inside.copies.items ∙ ap copy_count (sym now) in
    omega (arith, number, c.requires.room, c.self.invariant.room)

pub add-requires-clause-absent : goal.add-requires-clause-absent
add-requires-clause-absent c =
    let now : copies_of c.args.self.now ≡ copy_at c.self.inside.index.keys
    c.self.inside.copies.items = copies_of-kept c.args.self.now c.self.inside.index.keys
    c.self.inside.copies.items c.self.view_is in
    none_before c.self.inside.index.keys c.self.inside.copies.items c.args.line
    (ap (λ (copies : Copies). is_some (copies c.args.line)) (sym now) ∙ c.requires.absent)

pub add-requires-clause-room : goal.add-requires-clause-room
add-requires-clause-room c =
    let now : copies_of c.args.self.now ≡ copy_at c.self.inside.index.keys
    c.self.inside.copies.items = copies_of-kept c.args.self.now c.self.inside.index.keys
    c.self.inside.copies.items c.self.view_is in
    let number : c.count-slot.result ≡ copy_count (copies_of c.args.self.now) = c.count-slot.ensures.keys
    ∙ ap (λ n. count_below n (is_key c.self.inside.index.keys)) c.self.invariant.limit
    ∙ counted_copies c.self.inside.index.keys c.self.inside.copies.items ∙ ap copy_count (sym now) in
    omega (arith, number, c.requires.room, c.self.invariant.most, c.count-slot.ensures.value)

pub returns : goal.returns
returns c =
    let lines = c.self.inside.index.keys in
    let copies = c.self.inside.copies.items in
    let now : copies_of c.args.self.now ≡ copy_at lines copies = copies_of-kept c.args.self.now lines copies
    c.self.view_is in
    let number : c.count-slot.result ≡ copy_count (copies_of c.args.self.now) = c.count-slot.ensures.keys
    ∙ ap (λ n. count_below n (is_key lines)) c.self.invariant.limit ∙ counted_copies lines copies
    ∙ ap copy_count (sym now) in
    let absent : slot_in lines c.args.line ≡ None = none_before lines copies c.args.line
    (ap (λ (cs : Copies). is_some (cs c.args.line)) (sym now) ∙ c.requires.absent) in
    copies_of-is c.add.new.self.keys (set copies c.count-slot.result c.copy_from_slice.new.self)
    ∙ ap (λ (v : Slots). copy_at v.keys (set copies c.count-slot.result c.copy_from_slice.new.self))
    c.add.ensures
    ∙ ap (λ copy. copy_at (lines ++ c.args.line ∷ []) (set copies c.count-slot.result copy))
    c.copy_from_slice.ensures.after
    ∙ installed lines copies c.args.line c.count-slot.result c.args.bytes.now absent
    c.count-slot.ensures.value (omega (arith, number, c.requires.room, c.self.invariant.room))
    ∙ ap (λ (cs : Copies). with_copy cs c.args.line (Some c.args.bytes.now)) (sym now)
