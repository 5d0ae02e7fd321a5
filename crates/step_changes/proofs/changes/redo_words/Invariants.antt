-- The changes that are left lead to the end.
use Rattle.std.proofs.Common.{◌≡◌, drop}
use Rattle.std.specs.Prelude.{slice_set}
use Rattle.step_changes.specs.Changes.{redo}
use Rattle.step_changes.proofs.changes.redo_words.Given as goal

abbrev pub invariant-loop-change : goal.invariant-loop-change
invariant-loop-change l = redo slice_set (drop l.change-index l.changes) l.table ≡ redo slice_set l.changes l.fn.table
