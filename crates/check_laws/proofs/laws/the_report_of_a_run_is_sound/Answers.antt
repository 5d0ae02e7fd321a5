use Rattle.check_laws.proofs.Sound.{report_sound}
use Rattle.check_laws.proofs.laws.the_report_of_a_run_is_sound.Goals as goal

pub returns : goal.returns
returns c = λ m events setting known places. report_sound m setting events known places
