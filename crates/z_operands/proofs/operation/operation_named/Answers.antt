use Rattle.std.proofs.Common.{sym}
use Rattle.z_operands.proofs.Branches.{branch_named}
use Rattle.z_operands.proofs.operation.operation_named.Goals as goal

pub returns-in-Some-branch_mask-clause-is : goal.returns-in-Some-branch_mask-clause-is
returns-in-Some-branch_mask-clause-is c =
    branch_named c.args.name.now c.in-Some-branch_mask.mask c.row_named.result c.instruction.result
    (sym c.in_default.ensures.is) (sym c.in-Some-branch_mask.ensures.is) c.row_named.ensures.is
    c.instruction.ensures.is
