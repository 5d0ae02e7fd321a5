-- The changes that are left lead to the end.
use Rattle.std.proofs.Common.{◌∙◌, sym, arith}
use Rattle.step_changes.specs.Parts.{put_part}
use Rattle.step_changes.proofs.Changed.{redo_step, redo_none}
use Rattle.step_changes.proofs.cpus.redo_parts.Goals as goal

pub loop-change-preserved : goal.loop-change-preserved
loop-change-preserved c =
    redo_step put_part c.args.changes.now c.loop-change.change-index c.change-item.result c.loop-change.table
    c.put_at.new.table (omega arith) c.change-item.is c.put_at.ensures
    ∙ c.loop-change.invariant

pub returns : goal.returns
returns c =
    sym (redo_none put_part c.args.changes.now c.loop-change.change-index c.loop-change.table (omega arith))
    ∙ c.loop-change.invariant
