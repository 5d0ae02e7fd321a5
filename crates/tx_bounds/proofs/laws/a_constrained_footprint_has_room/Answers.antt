use Rattle.tx_bounds.proofs.Room.{has_room}
use Rattle.tx_bounds.proofs.laws.a_constrained_footprint_has_room.Goals as goal

pub returns : goal.returns
returns c = λ f i local kept instr is ok some place. has_room f i local kept instr is ok some place
