use Rattle.std.proofs.Common.{Decides, ◌∷◌, ◌∙◌, ap, subst}
use Rattle.report_form.specs.Words.{IsNumber}
use Rattle.report_form.proofs.WordLemmas.{external_tells}
use Rattle.report_form.proofs.words.is_event.Goals as goal

pub returns-then-first-eq88 : goal.returns-then-first-eq88
returns-then-first-eq88 c =
    external_tells c.args.last c.args.text.now c.in-Some.number.now c.is_number-then-first-eq88.result
    (c.in-Some.ensures.cases.0 ∙ ap (λ b. b ∷ c.in-Some.number.now) c.if-first-eq88.true)
    (subst (λ l. Decides c.is_number-then-first-eq88.result (IsNumber l c.in-Some.number.now))
    c.from-then-first-eq88.ensures c.is_number-then-first-eq88.ensures)
