use Rattle.sound_laws.proofs.Sound.{all_sound}
use Rattle.sound_laws.proofs.laws.every_entry_is_sound.Goals as goal

pub returns : goal.returns
returns c = all_sound
