-- The changes that are left lead to the end.
use Rattle.std.proofs.Common.{◌≡◌, ◌-◌, take, length}
use Rattle.step_changes.specs.Parts.{put_part}
use Rattle.step_changes.specs.Changes.{undo}
use Rattle.step_changes.proofs.cpus.undo_parts.Given as goal

abbrev pub invariant-loop-behind : goal.invariant-loop-behind
invariant-loop-behind l =
    undo put_part (take (length l.changes - l.behind) l.changes) l.table ≡ undo put_part l.changes l.fn.table
