use Rattle.std.proofs.Common.{◌∙◌}
use Rattle.z_operands.proofs.Rows.{row_none, row_found}
use Rattle.z_operands.proofs.operation.row_named.Goals as goal

pub returns-in-Some-clause-is : goal.returns-in-Some-clause-is
returns-in-Some-clause-is c = row_found c.args.name.now c.in-Some.row c.in-Some.ensures.known
    c.in-Some.ensures.found

pub returns-in_err-find-clause-is : goal.returns-in_err-find-clause-is
returns-in_err-find-clause-is c = c.from_residual.ensures ∙ row_none c.args.name.now c.in_err-find.ensures.none

pub returns-clause-is : goal.returns-clause-is
returns-clause-is c = row_found c.args.name.now c.in_ok-find.field-0.number c.in_ok-find.field-0.known
    c.in_ok-find.ensures.found
