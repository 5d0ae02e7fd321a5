-- The changes that are left lead to the end.
use Rattle.std.proofs.Common.{◌∙◌, ◌+◌, ◌-◌, sym, arith, length}
use Rattle.step_changes.specs.Parts.{put_part}
use Rattle.step_changes.proofs.Changed.{undo_step, undo_none, undo_all}
use Rattle.step_changes.proofs.cpus.undo_parts.Goals as goal

pub loop-behind-init : goal.loop-behind-init
loop-behind-init c = undo_all put_part c.args.changes.now _ c.args.table.now (omega arith)

pub loop-behind-preserved : goal.loop-behind-preserved
loop-behind-preserved c =
    undo_step put_part c.args.changes.now (length c.args.changes.now - (c.loop-behind.behind + 1)) _
    (length c.args.changes.now - c.loop-behind.behind) c.index-changes-changes.result c.loop-behind.table
    c.put_at.new.table (omega arith) (omega arith) (omega arith) c.index-changes-changes.is c.put_at.ensures
    ∙ c.loop-behind.invariant

pub returns : goal.returns
returns c =
    sym (undo_none put_part c.args.changes.now (length c.args.changes.now - c.loop-behind.behind) c.loop-behind.table
    (omega arith))
    ∙ c.loop-behind.invariant
