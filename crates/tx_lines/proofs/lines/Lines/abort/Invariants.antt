use Rattle.line_copies.specs.Seen.{holdings_of}
use Rattle.tx_lines.proofs.lines.Lines.abort.Given as goal

abbrev pub ghosts-abort_in : goal.ghosts-abort_in
ghosts-abort_in a = record { held = holdings_of a.lines.now; name = a.lines.ghost_name }
