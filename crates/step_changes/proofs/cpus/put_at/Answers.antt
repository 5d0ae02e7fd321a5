-- A part is put into the CPU at the place, where there is that place.
use Rattle.std.proofs.Common.{sym, ap, ◌∙◌, arith}
use Rattle.std.specs.Prelude.{slice_set}
use Rattle.step_changes.proofs.Parted.{put_past, put_there}
use Rattle.step_changes.proofs.cpus.put_at.Goals as goal

pub returns-then-at-table : goal.returns-then-at-table
returns-then-at-table c =
    let table = c.args.table.now in
    ap (slice_set table c.args.at) c.put.ensures
    ∙ put_there table c.args.at c.index-table-at.result c.args.part.now (omega arith)

pub returns-else-at-table : goal.returns-else-at-table
returns-else-at-table c = sym (put_past c.args.table.now c.args.at c.args.part.now (omega arith))
