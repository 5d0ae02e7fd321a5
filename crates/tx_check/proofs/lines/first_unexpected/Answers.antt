use Rattle.std.proofs.Common.{◌≡◌, ◌++◌, ◌+◌, ◌∙◌, ap, subst}
use Rattle.std.specs.Prelude.{IfSome, IfNone}
use Rattle.report_form.specs.Text.{lines_of}
use Rattle.tx_check.specs.Lines.{FirstDifference}
use Rattle.tx_check.proofs.LineLemmas.{state_whole, rest_joined}
use Rattle.tx_check.proofs.lines.first_unexpected.Goals as goal

pub returns-then-is_same-clause-none : goal.returns-then-is_same-clause-none
returns-then-is_same-clause-none c =
    state_whole c.args.report.now c.args.state.items c.args.place c.requires
    (c.is_same.ensures.0 c.if-is_same.true ∙ c.deref.ensures.value)

pub returns-clause-some : goal.returns-clause-some
returns-clause-some c =
    subst
    (λ t. IfSome c.first_difference.result (λ k. FirstDifference (lines_of c.args.report.now) (lines_of t) (k + 1)))
    (c.deref-2.ensures.value ∙ c.in_ok-extend_from_slice.ensures.items
    ∙ ap (λ t. c.args.state.items ++ t) (rest_joined c.args.report.now c.args.place c.requires))
    c.first_difference.ensures.some

pub returns-clause-none : goal.returns-clause-none
returns-clause-none c =
    subst (λ t. IfNone c.first_difference.result (lines_of c.args.report.now ≡ lines_of t))
    (c.deref-2.ensures.value ∙ c.in_ok-extend_from_slice.ensures.items
    ∙ ap (λ t. c.args.state.items ++ t) (rest_joined c.args.report.now c.args.place c.requires))
    c.first_difference.ensures.none
