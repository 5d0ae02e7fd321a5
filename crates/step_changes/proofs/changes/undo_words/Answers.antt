-- The changes that are left lead to the end.
use Rattle.std.proofs.Common.{◌∙◌, ◌+◌, ◌-◌, sym, arith, length}
use Rattle.std.specs.Prelude.{slice_set}
use Rattle.step_changes.proofs.Changed.{undo_at, undo_none, undo_all}
use Rattle.step_changes.proofs.changes.undo_words.Goals as goal

pub loop-behind-init : goal.loop-behind-init
loop-behind-init c = undo_all slice_set c.args.changes.now _ c.args.table.now (omega arith)

pub loop-behind-preserved : goal.loop-behind-preserved
loop-behind-preserved c =
    undo_at slice_set c.args.changes.now (length c.args.changes.now - (c.loop-behind.behind + 1)) _
    (length c.args.changes.now - c.loop-behind.behind) _ c.loop-behind.table c.put.new.table (omega arith)
    (omega arith) (omega arith) c.put.ensures
    ∙ c.loop-behind.invariant

pub returns : goal.returns
returns c =
    sym (undo_none slice_set c.args.changes.now (length c.args.changes.now - c.loop-behind.behind) c.loop-behind.table
    (omega arith))
    ∙ c.loop-behind.invariant
