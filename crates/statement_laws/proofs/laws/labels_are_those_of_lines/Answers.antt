-- The labels of a text by those of the plan that it leaves.
use Rattle.statement_laws.proofs.Lines.{labels_hold, labels_once}
use Rattle.statement_laws.proofs.laws.labels_are_those_of_lines.Goals as goal

pub returns-clause-given : goal.returns-clause-given
returns-clause-given c = labels_hold

pub returns-clause-once : goal.returns-clause-once
returns-clause-once c = labels_once
