use Rattle.tx_lending.proofs.Turning.{turns_kept, turns_each}
use Rattle.tx_lending.proofs.laws.lent_turns_are_turns.Goals as goal

pub returns-clause-kept : goal.returns-clause-kept
returns-clause-kept c = λ m i k needed t may away. turns_kept m i k needed t may away

pub returns-clause-each : goal.returns-clause-each
returns-clause-each c = λ m i k needed t may away j less. turns_each m i k needed t may away j less
