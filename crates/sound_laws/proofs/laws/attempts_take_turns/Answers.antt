use Rattle.sound_laws.proofs.Turns.{took_turns}
use Rattle.sound_laws.proofs.laws.attempts_take_turns.Goals as goal

pub returns : goal.returns
returns c = took_turns
