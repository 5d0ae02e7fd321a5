use Rattle.run_answers.proofs.Serials.{serial_run}
use Rattle.ztx_answers.proofs.laws.every_run_is_serial.Goals as goal

pub returns : goal.returns
returns c = λ m events s known. serial_run m s events known
