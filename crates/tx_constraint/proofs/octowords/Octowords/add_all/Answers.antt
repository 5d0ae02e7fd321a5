-- Without an operand nothing is added.
use Rattle.std.proofs.Common.{◌≡◌, List, [], length, ap, sym, ◌∙◌, arith}
use Rattle.std.proofs.lemmas.Bool.{le-leb}
use Rattle.tx_constraint.specs.Octowords.{with_octowords}
use Rattle.tx_constraint.proofs.AtOnce.{no-element}
use Rattle.tx_constraint.proofs.Piling.{with_octowords-none}
use Rattle.tx_constraint.proofs.octowords.Octowords.add_all.Goals as goal

pub returns-then-count-eq0-clause-added : goal.returns-then-count-eq0-clause-added
returns-then-count-eq0-clause-added c =
    let none = no-element c.args.touches.now (omega (arith, c.count.ensures.value, c.if-count-eq0.true)) in
    sym (ap (with_octowords c.args.self.now) none ∙ with_octowords-none c.args.self.now)

pub returns-then-count-eq0-clause-room : goal.returns-then-count-eq0-clause-room
returns-then-count-eq0-clause-room c =
    let none = no-element c.args.touches.now (omega (arith, c.count.ensures.value, c.if-count-eq0.true)) in
    let same = ap (with_octowords c.args.self.now) none ∙ with_octowords-none c.args.self.now in
    sym (le-leb (length (with_octowords c.args.self.now c.args.touches.now)) 4
    (omega (arith, ap length same, ap length c.self.view_is, c.is_full-most.ensures.fits)))
