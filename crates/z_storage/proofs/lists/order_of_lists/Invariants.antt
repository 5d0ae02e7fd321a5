-- What is left decides.
use Rattle.std.proofs.Common.{◌≡◌, ◌*◌, length}
use Rattle.z_effect.specs.StorageEffect.{order_of_bytes}
use Rattle.z_storage.proofs.Order.{left}
use Rattle.z_storage.proofs.lists.order_of_lists.Given as goal

abbrev pub invariant-loop-k : goal.invariant-loop-k
invariant-loop-k l =
    order_of_bytes l.first l.second ≡ left l.first l.second (8 * l.k) (length l.first)
