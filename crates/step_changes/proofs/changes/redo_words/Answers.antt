-- The changes that are left lead to the end.
use Rattle.std.proofs.Common.{◌∙◌, sym, arith}
use Rattle.std.specs.Prelude.{slice_set}
use Rattle.step_changes.proofs.Changed.{redo_at, redo_none}
use Rattle.step_changes.proofs.changes.redo_words.Goals as goal

pub loop-change-preserved : goal.loop-change-preserved
loop-change-preserved c =
    redo_at slice_set c.args.changes.now c.loop-change.change-index _ c.loop-change.table c.put.new.table (omega arith)
    c.put.ensures
    ∙ c.loop-change.invariant

pub returns : goal.returns
returns c =
    sym (redo_none slice_set c.args.changes.now c.loop-change.change-index c.loop-change.table (omega arith))
    ∙ c.loop-change.invariant
