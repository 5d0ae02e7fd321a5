-- The changes that are left lead to the end.
use Rattle.std.proofs.Common.{◌≡◌, ◌-◌, take, length}
use Rattle.std.specs.Prelude.{slice_set}
use Rattle.step_changes.specs.Changes.{undo}
use Rattle.step_changes.proofs.changes.undo_words.Given as goal

abbrev pub invariant-loop-behind : goal.invariant-loop-behind
invariant-loop-behind l =
    undo slice_set (take (length l.changes - l.behind) l.changes) l.table ≡ undo slice_set l.changes l.fn.table
