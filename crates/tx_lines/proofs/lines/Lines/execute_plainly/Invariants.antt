use Rattle.line_copies.specs.Seen.{holdings_of}
use Rattle.tx_lines.proofs.lines.Lines.execute_plainly.Given as goal

abbrev pub ghosts-execute_plainly_in : goal.ghosts-execute_plainly_in
ghosts-execute_plainly_in a = record { held = holdings_of a.lines.now; name = a.lines.ghost_name }
