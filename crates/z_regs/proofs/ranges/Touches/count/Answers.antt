use Rattle.std.proofs.Common.{rules, ap, ◌∙◌, sym, length}
use Rattle.std.proofs.lemmas.List.{length-take-le}
use Rattle.z_regs.proofs.ranges.Touches.count.Goals as goal

pub returns-clause-value : goal.returns-clause-value
returns-clause-value c =
    let taken = length-take-le c.self.inside.count c.self.inside.ranges (search rules) in
    sym taken ∙ ap length c.self.view_is
