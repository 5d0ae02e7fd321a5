use Rattle.tx_lending.proofs.Touching.{fate_alike, done_alike}
use Rattle.tx_lending.proofs.laws.one_instruction_depends_on_what_it_touches.Goals as goal

pub returns-clause-fate : goal.returns-clause-fate
returns-clause-fate c = λ text s t q h. fate_alike text s t q h

pub returns-clause-done : goal.returns-clause-done
returns-clause-done c = λ instr ranges local s t h. done_alike instr ranges local s t h
