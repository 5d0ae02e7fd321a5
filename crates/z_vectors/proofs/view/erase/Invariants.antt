use Rattle.std.proofs.Common.{◌≡◌, length}
use Rattle.z_regs.specs.Prefix.{storage_size}
use Rattle.z_vectors.proofs.view.erase.Given as goal

abbrev pub invariant-loop-address : goal.invariant-loop-address
invariant-loop-address l = length l.storage ≡ storage_size
