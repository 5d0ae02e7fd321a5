use Rattle.schedule_laws.proofs.Whole.{taken}
use Rattle.schedule_laws.proofs.laws.printed_schedules_are_taken.Goals as goal

pub returns : goal.returns
returns c = taken
