use Rattle.tx_lending.proofs.Homing.{comes_home, is_taken}
use Rattle.tx_lending.proofs.laws.what_is_brought_home_is_so_many_turns.Goals as goal

pub returns-clause-own : goal.returns-clause-own
returns-clause-own c = λ m events i k own s known within home. comes_home m s events known i k within own home

pub returns-clause-taken : goal.returns-clause-taken
returns-clause-taken c = λ m events i k from s known within home. is_taken m s events known i k within from home
