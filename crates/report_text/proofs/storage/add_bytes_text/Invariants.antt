use Rattle.std.proofs.Common.{◌≡◌, ◌++◌}
use Rattle.report_text.specs.Storage.{bytes_lines}
use Rattle.report_text.proofs.storage.add_bytes_text.Given as goal

abbrev pub invariant-loop-row : goal.invariant-loop-row
invariant-loop-row g l =
    l.text.items ≡ l.initial.text.items ++ bytes_lines (g.S.SharedBytes.bytes l.storage) l.first l.count l.row
