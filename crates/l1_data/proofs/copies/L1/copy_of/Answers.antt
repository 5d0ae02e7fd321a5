use Rattle.std.proofs.Common.{◌≡◌, ◌<◌, [], get_or, Some, is_some, sym, ap, ◌∙◌, arith}
use Rattle.std.specs.Option.{option_map}
use Rattle.std.proofs.lemmas.List.{get_or_read}
use Rattle.l1_data.specs.Sizes.{copy_limit}
use Rattle.l1_data.specs.Copies.{Copies, copies_of}
use Rattle.l1_data.proofs.Slotted.{copy_at, copies_of-kept, is_some-copy_at}
use Rattle.l1_data.proofs.copies.L1.copy_of.Goals as goal

pub slot_of-requires : goal.slot_of-requires
slot_of-requires c =
    let now : copies_of c.args.self.now ≡ copy_at c.self.inside.index.keys
    c.self.inside.copies.items = copies_of-kept c.args.self.now c.self.inside.index.keys
    c.self.inside.copies.items c.self.view_is in
    sym (ap (λ (copies : Copies). is_some (copies c.args.line)) now
    ∙ is_some-copy_at c.self.inside.index.keys c.self.inside.copies.items c.args.line) ∙ c.requires

pub index-requires : goal.index-requires
index-requires c = omega (arith, c.slot_of.ensures.within, c.self.invariant.room, c.self.invariant.most)

pub returns-clause-copy : goal.returns-clause-copy
returns-clause-copy c =
    let lines = c.self.inside.index.keys in
    let copies = c.self.inside.copies.items in
    let slot = c.slot_of.result in
    let now : copies_of c.args.self.now ≡ copy_at lines copies = copies_of-kept c.args.self.now lines copies
    c.self.view_is in
    let slot_in_room : slot < copy_limit = omega (arith, c.slot_of.ensures.within, c.self.invariant.most) in
    let copy : c.index.result.now ≡ get_or copies slot [] = get_or_read copies slot c.index.result.now
    (omega (arith, slot_in_room, c.self.invariant.room)) c.index.ensures [] in
    ap (λ (cs : Copies). cs c.args.line) now
    ∙ ap (option_map (λ s. get_or copies s [])) c.slot_of.ensures.value
    ∙ ap Some (sym copy)
