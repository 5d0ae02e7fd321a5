use Rattle.std.proofs.Common.{◌≡◌, ◌<◌, [], get_or, Some, sym, ap, ◌∙◌, arith}
use Rattle.std.specs.Option.{option_map}
use Rattle.std.proofs.lemmas.List.{get_or_read}
use Rattle.l1_data.specs.Sizes.{copy_limit}
use Rattle.l1_data.specs.Copies.{Copies, copies_of}
use Rattle.l1_data.proofs.Slotted.{copy_at, copies_of-kept}
use Rattle.l1_data.proofs.copies.L1.find.Goals as goal

pub returns-clause-copy : goal.returns-clause-copy
returns-clause-copy c =
    let lines = c.self.inside.index.keys in
    let copies = c.self.inside.copies.items in
    let slot = c.in_ok-slot.slot in
    let now : copies_of c.args.self.now ≡ copy_at lines copies = copies_of-kept c.args.self.now lines copies
    c.self.view_is in
    let in_room : slot < copy_limit = omega (arith, c.in_ok-slot.ensures.within, c.self.invariant.most) in
    let copy : c.index.result.now ≡ get_or copies slot [] = get_or_read copies slot c.index.result.now
    (omega (arith, in_room, c.self.invariant.room)) c.index.ensures [] in
    ap (λ (cs : Copies). cs c.args.line) now
    ∙ ap (option_map (λ s. get_or copies s [])) (sym c.in_ok-slot.ensures.value)
    ∙ ap Some (sym copy)

pub returns-in_err-slot-clause-none : goal.returns-in_err-slot-clause-none
returns-in_err-slot-clause-none c =
    let lines = c.self.inside.index.keys in
    let copies = c.self.inside.copies.items in
    rw c.from_residual.ensures
    (ap (λ (cs : Copies). cs c.args.line) (copies_of-kept c.args.self.now lines copies c.self.view_is)
    ∙ ap (option_map (λ s. get_or copies s [])) (sym c.in_err-slot.ensures.value))
