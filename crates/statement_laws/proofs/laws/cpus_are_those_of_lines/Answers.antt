-- CPUs and registers by the lines that are read again.
use Rattle.statement_laws.proofs.Lines.{entries_hold, registers_hold}
use Rattle.statement_laws.proofs.laws.cpus_are_those_of_lines.Goals as goal

pub returns-clause-entries : goal.returns-clause-entries
returns-clause-entries c = entries_hold

pub returns-clause-registers : goal.returns-clause-registers
returns-clause-registers c = registers_hold
