use Rattle.replay_laws.proofs.Fed.{run_again, race_again}
use Rattle.replay_laws.proofs.laws.a_printed_schedule_gives_the_same_report.Goals as goal

pub returns : goal.returns
returns c = record { run = run_again; race = race_again }
