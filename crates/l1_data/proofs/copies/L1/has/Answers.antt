use Rattle.std.proofs.Common.{◌≡◌, is_some, sym, ap, ◌∙◌}
use Rattle.l1_data.specs.Copies.{Copies, copies_of}
use Rattle.l1_data.proofs.Slotted.{copy_at, copies_of-kept, is_some-copy_at}
use Rattle.l1_data.proofs.copies.L1.has.Goals as goal

pub returns : goal.returns
returns c =
    let now : copies_of c.args.self.now ≡ copy_at c.self.inside.index.keys
    c.self.inside.copies.items = copies_of-kept c.args.self.now c.self.inside.index.keys
    c.self.inside.copies.items c.self.view_is in
    c.is_some.ensures ∙ ap is_some c.slot_of.ensures.value
    ∙ sym (ap (λ (copies : Copies). is_some (copies c.args.line)) now
    ∙ is_some-copy_at c.self.inside.index.keys c.self.inside.copies.items c.args.line)
