-- There is no step.
use Rattle.std.proofs.Common.{refl, sym, ap, ◌∙◌}
use Rattle.tx_cpu.specs.Parts.{Parts, local_of}
use Rattle.tx_marks.specs.Own.{given}
use Rattle.tx_run.specs.Made.{Made}
use Rattle.tx_run.proofs.Beginning.{begun-made}
use Rattle.tx_run.proofs.steps.Steps.begin_again.Goals as goal

pub returns-clause-made : goal.returns-clause-made
returns-clause-made c text image same =
    begun-made text image _ (c.copy_from.ensures ∙ ap (λ (p : Parts). local_of p) c.deref.ensures) refl
    (λ a. c.put_back.ensures.now a ∙ sym (c.put_back.ensures.given a)) c.put_back.ensures.untouched
    record { stored = c.clear.ensures.stored; pages = c.clear.ensures.pages } c.clear-2.ensures
    (λ a is. c.put_back.ensures.given a ∙ ap (λ (m : Made). given m.own a) c.self.view_is ∙ same a is)
