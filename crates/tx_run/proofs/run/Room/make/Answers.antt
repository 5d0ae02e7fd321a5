-- It has no step.
use Rattle.std.proofs.Common.{subst, ap, ◌∙◌, List, ℕ}
use Rattle.std.specs.FinSet.{items}
use Rattle.std.specs.Arc.{arc_value}
use Rattle.tx_journal.specs.Content.{Content}
use Rattle.tx_run.specs.Lent.{IsLent}
use Rattle.tx_run.proofs.run.Room.make.Goals as goal

pub invariant_of-result : goal.invariant_of-result
invariant_of-result c =
    let text = items (arc_value c.self.inside.program).guard in
    subst (λ (bytes : List ℕ). IsLent text bytes 0 c.make-steps.result)
    (c.bytes.ensures.value ∙ ap (λ (p : Content). p.storage) c.deref.ensures) (c.make-steps.ensures text)
