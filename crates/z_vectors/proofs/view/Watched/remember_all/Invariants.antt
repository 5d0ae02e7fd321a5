-- What is remembered changes no byte.
use Rattle.std.proofs.Common.{◌≡◌}
use Rattle.z_vectors.proofs.view.Watched.remember_all.Given as goal

abbrev pub invariant-loop-k : goal.invariant-loop-k
invariant-loop-k l = l.self.storage ≡ l.initial.self.storage
