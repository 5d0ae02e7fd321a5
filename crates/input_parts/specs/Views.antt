-- What an input was parted into, as pieces.
use Rattle.input_parts.specs.declared.parting.Parts.{Parts}
use Rattle.input_parts.specs.Parts.{Pieces}

abbrev pub pieces_of : Parts → Pieces
pieces_of p = record {
  listing = p.listing.now;
  marked = p.marked.now;
  behind = p.behind.now;
}
