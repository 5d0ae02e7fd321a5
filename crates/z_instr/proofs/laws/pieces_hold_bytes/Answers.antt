use Rattle.z_instr.proofs.Pieces.{holds_byte, is_among_pieces}
use Rattle.z_instr.proofs.laws.pieces_hold_bytes.Goals as goal

pub returns-clause-held : goal.returns-clause-held
returns-clause-held c = holds_byte

pub returns-clause-all : goal.returns-clause-all
returns-clause-all c = is_among_pieces
