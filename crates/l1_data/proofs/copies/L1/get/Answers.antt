use Rattle.std.proofs.Common.{◌≡◌, ◌<◌, [], length, get_or, Some, is_some, sym, ap, ◌∙◌, arith}
use Rattle.std.proofs.lemmas.List.{get_or_read}
use Rattle.l1_data.specs.Sizes.{line_size, copy_limit}
use Rattle.l1_data.specs.Copies.{Copies, copies_of, byte_in}
use Rattle.l1_data.proofs.Slotted.{copy_at, copies_of-kept, is_some-copy_at, byte_found}
use Rattle.l1_data.proofs.copies.L1.get.Goals as goal

pub slot_of-requires : goal.slot_of-requires
slot_of-requires c =
    let now : copies_of c.args.self.now ≡ copy_at c.self.inside.index.keys
    c.self.inside.copies.items = copies_of-kept c.args.self.now c.self.inside.index.keys
    c.self.inside.copies.items c.self.view_is in
    sym (ap (λ (copies : Copies). is_some (copies c.args.line)) now
    ∙ is_some-copy_at c.self.inside.index.keys c.self.inside.copies.items c.args.line) ∙ c.requires.there

pub index-requires : goal.index-requires
index-requires c = omega (arith, c.slot_of.ensures.within, c.self.invariant.room, c.self.invariant.most)

pub returns : goal.returns
returns c =
    let lines = c.self.inside.index.keys in
    let copies = c.self.inside.copies.items in
    let slot = c.slot_of.result in
    let now : copies_of c.args.self.now ≡ copy_at lines copies = copies_of-kept c.args.self.now lines copies
    c.self.view_is in
    let slot_in_room : slot < copy_limit = omega (arith, c.slot_of.ensures.within, c.self.invariant.most) in
    let size : length (get_or copies slot []) ≡ line_size = c.self.invariant.sized slot slot_in_room in
    let copy : c.index.result.now ≡ get_or copies slot [] = get_or_read copies slot c.index.result.now
    (omega (arith, slot_in_room, c.self.invariant.room)) c.index.ensures [] in
    ap (λ bytes. Some (get_or bytes c.args.at 0)) copy
    ∙ byte_found lines copies c.args.line slot c.args.at c.slot_of.ensures.value
    (omega (arith, size, c.requires.within))
    ∙ ap (λ (cs : Copies). byte_in cs c.args.line c.args.at) (sym now)
