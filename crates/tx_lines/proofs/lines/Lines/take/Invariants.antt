use Rattle.line_copies.specs.Seen.{holdings_of}
use Rattle.tx_lines.proofs.lines.Lines.take.Given as goal

abbrev pub ghosts-take_in : goal.ghosts-take_in
ghosts-take_in a = record { held = holdings_of a.lines.now; name = a.lines.ghost_name }
