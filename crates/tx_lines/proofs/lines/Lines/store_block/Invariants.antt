use Rattle.line_copies.specs.Seen.{holdings_of}
use Rattle.tx_lines.proofs.lines.Lines.store_block.Given as goal

abbrev pub ghosts-store_block_in : goal.ghosts-store_block_in
ghosts-store_block_in a = record { held = holdings_of a.lines.now; name = a.lines.ghost_name }
