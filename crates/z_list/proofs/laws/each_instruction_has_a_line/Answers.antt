use Rattle.z_list.proofs.Codes.{lines_are}
use Rattle.z_list.proofs.laws.each_instruction_has_a_line.Goals as goal

pub returns : goal.returns
returns c image is = lines_are image.storage image.starts is.readings
