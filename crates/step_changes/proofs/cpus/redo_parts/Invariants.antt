-- The changes that are left lead to the end.
use Rattle.std.proofs.Common.{◌≡◌, drop}
use Rattle.step_changes.specs.Parts.{put_part}
use Rattle.step_changes.specs.Changes.{redo}
use Rattle.step_changes.proofs.cpus.redo_parts.Given as goal

abbrev pub invariant-loop-change : goal.invariant-loop-change
invariant-loop-change l = redo put_part (drop l.change-index l.changes) l.table ≡ redo put_part l.changes l.fn.table
