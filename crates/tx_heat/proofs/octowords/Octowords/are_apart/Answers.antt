-- Nothing is shared, or something is.
use Rattle.std.proofs.Common.{true, false, sym, subst}
use Rattle.tx_heat.specs.Marks.{Marks, AreMarksOf}
use Rattle.tx_heat.proofs.Marked.{decided}
use Rattle.tx_heat.proofs.octowords.Octowords.are_apart.Goals as goal

pub returns-then-is_stored : goal.returns-then-is_stored
returns-then-is_stored c = λ past marks.
    let kept = subst (λ (v : Marks). AreMarksOf v past) (sym c.self.view_is) marks in
    decided c.args.asked.now past c.args.line c.requires.line true (sym c.if-is_stored.ensures)
    c.self.inside.touched kept.touched c.is_shared.result c.is_shared.ensures.found c.is_shared.ensures.none

pub returns : goal.returns
returns c = λ past marks.
    let kept = subst (λ (v : Marks). AreMarksOf v past) (sym c.self.view_is) marks in
    decided c.args.asked.now past c.args.line c.requires.line false (sym c.if-is_stored.ensures)
    c.self.inside.stored kept.stored c.is_shared-2.result c.is_shared-2.ensures.found c.is_shared-2.ensures.none
