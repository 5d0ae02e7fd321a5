use Rattle.std.proofs.Common.{◌∙◌}
use Rattle.line_table.specs.Holders.{mode_in}
use Rattle.line_copies.specs.Seen.{copied}
use Rattle.line_copies.proofs.Shown.{opened_seen}
use Rattle.line_copies.proofs.lines.CoherentLines.open.Goals as goal

pub returns-clause-bytes : goal.returns-clause-bytes
returns-clause-bytes c =
    opened_seen c.in_ok-table.table.cpus (mode_in c.in_ok-table.table) (copied c.in_ok-copies.copies.items)
    c.in_ok-storage.storage
    c.in_ok-table.ensures.empty
    ∙ c.in_ok-storage.ensures
