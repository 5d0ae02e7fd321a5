use Rattle.std.proofs.Common.{ap, ◌∙◌}
use Rattle.slot_index.specs.Slots.{Slots}
use Rattle.l1_data.proofs.Slotted.{copy_at, copies_of-is, none_kept}
use Rattle.l1_data.proofs.copies.L1.open.Goals as goal

pub returns : goal.returns
returns c = copies_of-is c.in_ok-index.index.keys c.in_ok-copies.copies.items
    ∙ ap (λ (v : Slots). copy_at v.keys c.in_ok-copies.copies.items) c.in_ok-index.ensures
    ∙ none_kept c.in_ok-copies.copies.items
