-- What is proved of the exchange of two areas.
use Rattle.z_regs.proofs.Exchange.{seen_at, seen_twice, absolute_twice}
use Rattle.z_regs.proofs.laws.areas_change_places.Goals as goal

pub returns-clause-byte : goal.returns-clause-byte
returns-clause-byte c = seen_at

pub returns-clause-twice : goal.returns-clause-twice
returns-clause-twice c = seen_twice

pub returns-clause-address : goal.returns-clause-address
returns-clause-address c = absolute_twice
