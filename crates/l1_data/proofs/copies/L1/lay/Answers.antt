use Rattle.std.proofs.Common.{◌≡◌, ◌+◌, ◌-◌, ◌<◌, [], ◌++◌, length, get_or, set, take, drop, is_some, sym, ap, ◌∙◌, arith}
use Rattle.std.specs.Option.{option_map}
use Rattle.std.proofs.lemmas.List.{get_or_read}
use Rattle.l1_data.specs.Copies.{Copies, copies_of, with_copy, laid}
use Rattle.l1_data.proofs.Slotted.{copy_at, copies_of-kept, copies_of-is, is_some-copy_at, changed, laid_between}
use Rattle.l1_data.proofs.copies.L1.lay.Goals as goal

pub slot_of-slot-requires : goal.slot_of-slot-requires
slot_of-slot-requires c =
    let now : copies_of c.args.self.now ≡ copy_at c.self.inside.index.keys
    c.self.inside.copies.items = copies_of-kept c.args.self.now c.self.inside.index.keys
    c.self.inside.copies.items c.self.view_is in
    sym (ap (λ (copies : Copies). is_some (copies c.args.line)) now
    ∙ is_some-copy_at c.self.inside.index.keys c.self.inside.copies.items c.args.line) ∙ c.requires.there

pub index_mut-requires : goal.index_mut-requires
index_mut-requires c = omega (
  arith,
  c.slot_of-slot.ensures.within,
  c.self.invariant.room,
  c.self.invariant.most,
)

pub returns : goal.returns
returns c =
    let lines = c.self.inside.index.keys in
    let copies = c.self.inside.copies.items in
    let slot = c.slot_of-slot.result in
    let at = c.args.at in
    let bytes = c.args.bytes.now in
    let now : copies_of c.args.self.now ≡ copy_at lines copies = copies_of-kept c.args.self.now lines copies
    c.self.view_is in
    let room : slot < length copies = omega
    (arith, c.slot_of-slot.ensures.within, c.self.invariant.room, c.self.invariant.most) in
    let copy : c.index_mut.result.now ≡ get_or copies slot [] = get_or_read copies slot
    c.index_mut.result.now room c.index_mut.ensures.value [] in
    copies_of-is lines (set copies slot (take at c.index_mut.result.now ++ (c.copy_from_slice.new.self ++ drop
    (at + length bytes - at) (drop at c.index_mut.result.now))))
    ∙ ap (λ b. copy_at lines (set copies slot (take at c.index_mut.result.now ++ (b ++ drop
    (at + length bytes - at) (drop at c.index_mut.result.now))))) c.copy_from_slice.ensures.after
    ∙ ap (λ b. copy_at lines (set copies slot b)) (laid_between c.index_mut.result.now at bytes)
    ∙ ap (λ b. copy_at lines (set copies slot (laid b at bytes))) copy
    ∙ changed lines copies c.args.line slot (λ b. laid b at bytes) c.slot_of-slot.ensures.value room
    ∙ ap (λ (cs : Copies). with_copy cs c.args.line
    (option_map (λ b. laid b at bytes) (cs c.args.line))) (sym now)
