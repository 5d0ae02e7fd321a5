use Rattle.z_list.proofs.Texts.{one_spelling}
use Rattle.z_list.proofs.laws.texts_tell_instructions.Goals as goal

pub returns : goal.returns
returns c = one_spelling
