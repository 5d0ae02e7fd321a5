-- More is marked.
use Rattle.std.proofs.Common.{sym, subst}
use Rattle.tx_heat.specs.Marks.{Marks, AreMarksOf}
use Rattle.tx_heat.proofs.Marked.{more_marked}
use Rattle.tx_heat.proofs.octowords.Octowords.add.Goals as goal

pub returns : goal.returns
returns c = λ past marks.
    let old : Marks = record { touched = c.self.inside.touched; stored = c.self.inside.stored } in
    let new : Marks = record { touched = c.mark.new.touched; stored = c.mark.new.stored } in
    more_marked old new past c.args.ranges.now c.mark.ensures.touched c.mark.ensures.stored
    (subst (λ (v : Marks). AreMarksOf v past) (sym c.self.view_is) marks)
