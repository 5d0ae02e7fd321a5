use Rattle.std.proofs.Common.{ap, ◌∙◌}
use Rattle.slot_index.specs.Slots.{Slots}
use Rattle.l1_data.proofs.Slotted.{copy_at, copies_of-is, none_kept}
use Rattle.l1_data.proofs.copies.L1.clear.Goals as goal

pub returns : goal.returns
returns c = copies_of-is c.clear.new.self.keys c.self.inside.copies.items
    ∙ ap (λ (v : Slots). copy_at v.keys c.self.inside.copies.items) c.clear.ensures
    ∙ none_kept c.self.inside.copies.items
