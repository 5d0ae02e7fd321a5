-- One range in one line needs this line.
use Rattle.std.proofs.Common.{◌≡◌, List, [], ◌∷◌, length, sym, subst, arith}
use Rattle.std.specs.Prelude.{IfSome}
use Rattle.z_regs.specs.declared.ranges.Range.{Range}
use Rattle.z_regs.proofs.Elements.{one_element}
use Rattle.tx_meaning.specs.declared.asking.Need.{Need}
use Rattle.tx_meaning.specs.Needs.{needs_of}
use Rattle.tx_works.proofs.getting.only_need.Goals as goal

pub returns-clause-needs : goal.returns-clause-needs
returns-clause-needs c =
    let counted : length c.args.ranges.now ≡ 1 = omega (arith, c.count.ensures.value, c.if-count-ne1.false) in
    subst (λ (rs : List Range). IfSome c.need_in_line.result (λ (need : Need). needs_of rs ≡ need ∷ []))
    (sym (one_element c.args.ranges.now c.at.result counted c.at.ensures)) c.need_in_line.ensures.needs
