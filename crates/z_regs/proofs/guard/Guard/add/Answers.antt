use Rattle.std.proofs.Common.{ap, ◌∙◌, arith}
use Rattle.std.specs.FinSet.{insert}
use Rattle.z_regs.proofs.Marks.{marked-set}
use Rattle.z_regs.proofs.guard.Guard.add.Goals as goal

pub returns : goal.returns
returns c = marked-set c.self.inside.is_text c.args.page (omega (arith, c.self.invariant, c.requires))
    ∙ ap (λ s. insert s c.args.page) c.self.view_is
