use Rattle.step_words.proofs.One.{one_holds, same_commands, same_number, never_both}
use Rattle.step_words.proofs.laws.a_text_has_one_reading.Goals as goal

pub returns-clause-some : goal.returns-clause-some
returns-clause-some c = one_holds

pub returns-clause-one : goal.returns-clause-one
returns-clause-one c = λ cpus text cs ds small. same_commands cpus small text cs ds

pub returns-clause-one_line : goal.returns-clause-one_line
returns-clause-one_line c = same_number

pub returns-clause-not_both : goal.returns-clause-not_both
returns-clause-not_both c = never_both
