use Rattle.std.proofs.Common.{◌≡◌}
use Rattle.std.proofs.Common.{length, Some, None}
use Rattle.std.proofs.Common.{refl, sym, ap, ◌∙◌}
use Rattle.std.proofs.lemmas.Bool.{cond-true, eq-eqb}
use Rattle.slot_index.specs.Slots.{Slots, slot_in}
use Rattle.slot_index.proofs.Found.{slot_in-add}
use Rattle.store_cache.proofs.cache.slot_for.Goals as goal

pub returns-clause-slot : goal.returns-clause-slot
returns-clause-slot c =
    let none : slot_in c.args.index.now.keys c.args.block ≡ None = sym c.slot_of.ensures.value
    ∙ c.in_default.is in
    ap (λ (v : Slots). slot_in v.keys c.args.block) c.add.ensures
    ∙ slot_in-add c.args.index.now.keys c.args.block c.args.block none
    ∙ cond-true _ (Some (length c.args.index.now.keys)) (slot_in c.args.index.now.keys c.args.block)
    (eq-eqb c.args.block c.args.block refl)
    ∙ ap Some (sym c.count-slot.ensures.value)
