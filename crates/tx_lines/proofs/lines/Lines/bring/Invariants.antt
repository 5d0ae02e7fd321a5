use Rattle.line_copies.specs.Seen.{holdings_of}
use Rattle.tx_lines.proofs.lines.Lines.bring.Given as goal

abbrev pub ghosts-bring_in : goal.ghosts-bring_in
ghosts-bring_in a = record { held = holdings_of a.lines.now; name = a.lines.ghost_name }
