use Rattle.z_assemble.proofs.Says.{one_holds, both_fail, same_image, same_fault}
use Rattle.z_assemble.proofs.laws.a_text_is_one_of_two.Goals as goal

pub returns-clause-one : goal.returns-clause-one
returns-clause-one c = one_holds

pub returns-clause-not_both : goal.returns-clause-not_both
returns-clause-not_both c = both_fail

pub returns-clause-one_image : goal.returns-clause-one_image
returns-clause-one_image c = same_image

pub returns-clause-one_fault : goal.returns-clause-one_fault
returns-clause-one_fault c = same_fault
