use Rattle.std.proofs.Common.{◌≡◌, ◌-◌, ◌<◌, [], length, get_or, set, None, is_some, sym, ap, ◌∙◌, arith}
use Rattle.std.proofs.lemmas.List.{get_or_read}
use Rattle.slot_index.proofs.Found.{slot_in-has}
use Rattle.l1_data.specs.Copies.{Copies, copies_of, with_copy}
use Rattle.l1_data.proofs.Slotted.{copy_at, copies_of-kept, copies_of-is, is_some-copy_at, dropped}
use Rattle.l1_data.proofs.copies.L1.drop_line.Goals as goal

pub slot_of-slot-requires : goal.slot_of-slot-requires
slot_of-slot-requires c =
    let now : copies_of c.args.self.now ≡ copy_at c.self.inside.index.keys
    c.self.inside.copies.items = copies_of-kept c.args.self.now c.self.inside.index.keys
    c.self.inside.copies.items c.self.view_is in
    sym (ap (λ (copies : Copies). is_some (copies c.args.line)) now
    ∙ is_some-copy_at c.self.inside.index.keys c.self.inside.copies.items c.args.line) ∙ c.requires

pub overflow_sub-last : goal.overflow_sub-last
overflow_sub-last c = omega (
  arith,
  (slot_in-has c.self.inside.index.keys c.args.line c.slot_of-slot.result
      c.slot_of-slot.ensures.value).within,
  c.count-last.ensures.value,
)

pub index_mut-requires : goal.index_mut-requires
index_mut-requires c = omega (
  arith,
  (slot_in-has c.self.inside.index.keys c.args.line c.slot_of-slot.result
      c.slot_of-slot.ensures.value).within,
  c.count-last.ensures.value,
  c.count-last.ensures.within,
  c.self.invariant.room,
  c.self.invariant.most,
)

pub remove-requires : goal.remove-requires
remove-requires c = (slot_in-has c.self.inside.index.keys c.args.line c.slot_of-slot.result
    c.slot_of-slot.ensures.value).within

pub returns : goal.returns
returns c =
    let lines = c.self.inside.index.keys in
    let copies = c.self.inside.copies.items in
    let slot = c.slot_of-slot.result in
    let now : copies_of c.args.self.now ≡ copy_at lines copies = copies_of-kept c.args.self.now lines copies
    c.self.view_is in
    let within : slot < length copies = omega (
      arith,
      (slot_in-has lines c.args.line slot c.slot_of-slot.ensures.value).within,
      c.count-last.ensures.value,
      c.count-last.ensures.within,
      c.self.invariant.room,
      c.self.invariant.most,
    ) in
    let last : length lines - 1 < length copies = omega (
      arith,
      within,
      (slot_in-has lines c.args.line slot c.slot_of-slot.ensures.value).within,
      c.count-last.ensures.value,
      c.count-last.ensures.within,
      c.self.invariant.room,
      c.self.invariant.most,
    ) in
    let moved : c.index.result.now ≡ get_or copies (length lines - 1) [] =
    get_or_read copies (c.count-last.result - 1) c.index.result.now
    (omega (arith, last, c.count-last.ensures.value)) c.index.ensures []
    ∙ ap (λ n. get_or copies (n - 1) []) c.count-last.ensures.value in
    copies_of-is c.remove.new.self.keys (set copies slot c.index.result.now)
    ∙ dropped lines c.remove.new.self.keys copies c.args.line slot c.index.result.now
    c.slot_of-slot.ensures.value within moved c.remove.ensures.slots
    ∙ ap (λ (cs : Copies). with_copy cs c.args.line None) (sym now)
