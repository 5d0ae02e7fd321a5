use Rattle.line_copies.specs.Seen.{holdings_of}
use Rattle.tx_lines.proofs.lines.Lines.execute.Given as goal

abbrev pub ghosts-execute_in : goal.ghosts-execute_in
ghosts-execute_in a = record { held = holdings_of a.lines.now; name = a.lines.ghost_name }
