use Rattle.tx_serial.proofs.Passing.{passes, goes_where_passes}
use Rattle.tx_serial.proofs.laws.an_instruction_goes_where_no_test_refuses_it.Goals as goal

pub returns : goal.returns
returns c = λ text p i ranges. (passes text p i ranges, goes_where_passes text p i ranges)
