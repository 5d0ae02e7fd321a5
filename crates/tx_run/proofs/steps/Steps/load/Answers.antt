-- There is no step.
use Rattle.std.proofs.Common.{refl, sym, ap, ◌∙◌}
use Rattle.tx_marks.specs.Own.{bytes_at}
use Rattle.tx_run.specs.Made.{Made}
use Rattle.tx_run.proofs.Beginning.{loaded-made}
use Rattle.tx_run.proofs.steps.Steps.load.Goals as goal

pub returns-clause-made : goal.returns-clause-made
returns-clause-made c text image same =
    loaded-made text image _ (c.copy_from-2.ensures ∙ sym c.copy_from.ensures) refl c.forget.ensures.untouched
    record { stored = c.clear.ensures.stored; pages = c.clear.ensures.pages } c.clear-2.ensures
    (λ a is. ap (λ b. bytes_at b a) c.forget.ensures.now ∙ ap (λ (m : Made). bytes_at m.own.now a) c.self.view_is
    ∙ same a is)
