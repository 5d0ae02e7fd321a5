use Rattle.z_assemble.proofs.Images.{stands_for_image}
use Rattle.z_assemble.proofs.laws.what_stands_is_an_image.Goals as goal

pub returns : goal.returns
returns c = stands_for_image
