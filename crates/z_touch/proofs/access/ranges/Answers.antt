use Rattle.std.proofs.Common.{ap, ◌∙◌}
use Rattle.z_instr.specs.Table.{Entry}
use Rattle.z_touch.proofs.Reach.{ranges_of_row}
use Rattle.z_touch.proofs.access.ranges.Goals as goal

pub returns : goal.returns
returns c =
    ranges_of_row c.args.instr.now c.args.image.now.general c.args.image.now.condition c.operands.result
    c.operands_in.result (c.operands.ensures ∙ ap (λ (e : Entry). e.operands) c.line.ensures.row)
    c.operands_in.ensures
