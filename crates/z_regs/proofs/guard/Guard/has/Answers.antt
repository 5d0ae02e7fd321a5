use Rattle.std.proofs.Common.{ap, ◌∙◌, sym, arith, le-ltb}
use Rattle.std.specs.FinSet.{contains}
use Rattle.z_regs.proofs.Marks.{contains-marked, contains-marked_past}
use Rattle.z_regs.proofs.guard.Guard.has.Goals as goal

pub returns-then-page-lt256-clause-there : goal.returns-then-page-lt256-clause-there
returns-then-page-lt256-clause-there c =
    sym (contains-marked c.self.inside.is_text c.args.page) ∙ ap (λ s. contains s c.args.page) c.self.view_is

pub returns-then-page-lt256-clause-below : goal.returns-then-page-lt256-clause-below
returns-then-page-lt256-clause-below c = λ q h.
    sym (ap (λ s. contains s q) c.self.view_is)
    ∙ contains-marked_past c.self.inside.is_text q (omega (arith, c.self.invariant, h))

pub returns-else-page-lt256-clause-there : goal.returns-else-page-lt256-clause-there
returns-else-page-lt256-clause-there c =
    le-ltb _ _ c.if-page-lt256.false
    ∙ sym (sym (ap (λ s. contains s c.args.page) c.self.view_is)
    ∙ contains-marked_past c.self.inside.is_text c.args.page
    (omega (arith, c.self.invariant, c.if-page-lt256.false)))

pub returns-else-page-lt256-clause-below : goal.returns-else-page-lt256-clause-below
returns-else-page-lt256-clause-below c = λ q h.
    sym (ap (λ s. contains s q) c.self.view_is)
    ∙ contains-marked_past c.self.inside.is_text q (omega (arith, c.self.invariant, h))
