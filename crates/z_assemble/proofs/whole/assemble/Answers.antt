use Rattle.std.proofs.Common.{Ok, Err, sym, subst}
use Rattle.z_assemble.specs.Whole.{Stands}
use Rattle.z_assemble.proofs.Images.{stands_for_image}
use Rattle.z_assemble.proofs.Says.{outcome_image, outcome_fault}
use Rattle.z_assemble.proofs.whole.assemble.Goals as goal

pub into_image-requires : goal.into_image-requires
into_image-requires c = stands_for_image c.args.text.now c.in-Ok.parts
    (outcome_image c.args.text.now (Ok c.in-Ok.parts) c.in-Ok.ensures)

pub returns-in-Ok-clause-image : goal.returns-in-Ok-clause-image
returns-in-Ok-clause-image c =
    subst (Stands c.args.text.now) (sym c.into_image.ensures)
    (outcome_image c.args.text.now (Ok c.in-Ok.parts) c.in-Ok.ensures)

pub returns-in-Err-clause-fault : goal.returns-in-Err-clause-fault
returns-in-Err-clause-fault c = outcome_fault c.args.text.now (Err c.in-Err.fault) c.in-Err.ensures
