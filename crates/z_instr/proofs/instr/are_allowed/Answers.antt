use Rattle.std.proofs.Common.{sym, ◌∙◌}
use Rattle.z_instr.specs.Table.{entry_at}
use Rattle.z_instr.proofs.Within.{below_sixteen}
use Rattle.z_instr.proofs.instr.are_allowed.Goals as goal

pub returns-clause-small : goal.returns-clause-small
returns-clause-small c allowed =
    below_sixteen c.field_limits.result
    (entry_at c.args.op.number) c.args.fields.r1 c.args.fields.r2 c.args.fields.r3 c.args.fields.x c.args.fields.b
    c.args.fields.d c.args.fields.b2 c.args.fields.d2 c.args.fields.imm c.args.fields.mask c.field_limits.ensures (sym c.are_in.ensures ∙ allowed)
