-- What is proved of ranges by absolute addresses.
use Rattle.std.proofs.Common.{arith}
use Rattle.z_regs.proofs.MovedBytes.{same_bytes, at_most_two, doubleword_whole}
use Rattle.z_regs.proofs.laws.ranges_keep_their_bytes.Goals as goal

pub returns-clause-bytes : goal.returns-clause-bytes
returns-clause-bytes c = λ prefix r h accessible. same_bytes prefix r h (omega arith)

pub returns-clause-few : goal.returns-clause-few
returns-clause-few c = at_most_two

pub returns-clause-doubleword : goal.returns-clause-doubleword
returns-clause-doubleword c = doubleword_whole
