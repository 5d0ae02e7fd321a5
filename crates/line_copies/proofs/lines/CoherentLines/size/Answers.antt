use Rattle.std.proofs.Common.{length, sym, ap, ◌∙◌}
use Rattle.line_table.specs.Holders.{mode_in}
use Rattle.line_copies.specs.Seen.{copied}
use Rattle.line_copies.proofs.Shown.{seen_size}
use Rattle.line_copies.proofs.lines.CoherentLines.size.Goals as goal

pub returns-clause-bytes : goal.returns-clause-bytes
returns-clause-bytes c =
    ap (λ v. length v.bytes) (sym c.self.view_is)
    ∙ seen_size c.self.inside.table.cpus (mode_in c.self.inside.table) (copied c.self.inside.copies.items)
    c.self.inside.storage
    ∙ c.self.invariant.size
