-- The operand at the first place is the only one.
use Rattle.std.proofs.Common.{◌≡◌, length, ap, ◌∙◌, arith}
use Rattle.std.proofs.lemmas.Option.{IfSome_then}
use Rattle.tx_constraint.specs.Octowords.{with_octowords}
use Rattle.z_regs.proofs.Elements.{one_element}
use Rattle.tx_constraint.proofs.octowords.only_octoword.Goals as goal

pub returns : goal.returns
returns c =
    let one : length c.args.touches.now ≡ 1 = omega (arith, c.count.ensures.value, c.if-count-ne1.false) in
    let only = one_element c.args.touches.now c.at.result one c.at.ensures in
    IfSome_then c.whole_octoword.result c.whole_octoword.ensures
    (λ octoword so found. ap (with_octowords found) only ∙ so found)
