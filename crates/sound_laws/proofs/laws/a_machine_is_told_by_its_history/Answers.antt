use Rattle.sound_laws.proofs.Sound.{machines_told, told_alone}
use Rattle.sound_laws.proofs.laws.a_machine_is_told_by_its_history.Goals as goal

pub returns : goal.returns
returns c = record { machines = machines_told; alone = told_alone }
