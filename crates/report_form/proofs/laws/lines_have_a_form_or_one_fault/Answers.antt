use Rattle.report_form.proofs.OneFault.{one_fault, same_counts, no_fault}
use Rattle.report_form.proofs.laws.lines_have_a_form_or_one_fault.Goals as goal

pub returns-clause-none : goal.returns-clause-none
returns-clause-none c = no_fault

pub returns-clause-counts : goal.returns-clause-counts
returns-clause-counts c = same_counts

pub returns-clause-once : goal.returns-clause-once
returns-clause-once c = one_fault
