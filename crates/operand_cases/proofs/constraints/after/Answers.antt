use Rattle.std.proofs.Common.{◌≡◌, ◌+◌, [], length, ap, ◌∙◌, arith}
use Rattle.tx_constraint.specs.Octowords.{with_octowords}
use Rattle.tx_constraint.specs.Kept.{Kept}
use Rattle.tx_constraint.proofs.Piling.{with_octowords-none}
use Rattle.operand_cases.proofs.constraints.after.Goals as goal

pub add-requires-clause-admitted : goal.add-requires-clause-admitted
add-requires-clause-admitted c =
    let os = c.loop-done.constraint.octowords in
    let none : with_octowords os c.none.result ≡ [] = ap (with_octowords os) c.none.ensures
    ∙ with_octowords-none os ∙ c.loop-done.invariant.1 in
    omega (arith, ap length none)

pub loop-done-preserved : goal.loop-done-preserved
loop-done-preserved c =
    let os = c.loop-done.constraint.octowords in (
      ap (λ (k : Kept). k.count) c.add.ensures ∙ ap (λ n. n + 1) c.loop-done.invariant.0,
      ap (λ (k : Kept). k.octowords) c.add.ensures ∙ ap (with_octowords os) c.none.ensures
          ∙ with_octowords-none os ∙ c.loop-done.invariant.1,
    )
