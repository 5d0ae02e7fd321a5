-- The table as it is defined has as many rows as the code counts.
use Rattle.std.proofs.Common.{refl}
use Rattle.z_instr.specs.Table.{table}
use Rattle.z_instr.proofs.laws.rows_are_counted.Goals as goal

pub returns : goal.returns
unfolding table
returns c = record { all = refl; number = refl }
