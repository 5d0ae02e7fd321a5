use Rattle.form_laws.proofs.Whole.{has_form}
use Rattle.form_laws.proofs.laws.a_report_has_the_form.Goals as goal

pub returns : goal.returns
returns c = has_form
