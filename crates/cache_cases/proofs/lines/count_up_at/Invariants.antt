use Rattle.line_copies.specs.Seen.{holdings_of}
use Rattle.cache_cases.proofs.lines.count_up_at.Given as goal

abbrev pub ghosts-count_up_in : goal.ghosts-count_up_in
ghosts-count_up_in a = record { held = holdings_of a.lines.now; name = a.lines.ghost_name }
