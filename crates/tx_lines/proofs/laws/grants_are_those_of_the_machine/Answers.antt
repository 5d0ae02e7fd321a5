use Rattle.tx_lines.proofs.SameGrant.{same_line, same_grant}
use Rattle.tx_lines.proofs.laws.grants_are_those_of_the_machine.Goals as goal

pub returns-clause-spare : goal.returns-clause-spare
returns-clause-spare c held cpu footprint needs = same_line held cpu footprint needs

pub returns-clause-grant : goal.returns-clause-grant
returns-clause-grant c cpu footprint needs need held = same_grant cpu footprint needs need held
