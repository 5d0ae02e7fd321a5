use Rattle.std.proofs.Common.{◌≡◌, ◌<◌, ◌*◌, take, length}
use Rattle.std.specs.Prelude.{All}
use Rattle.z_assemble.specs.Whole.{places_from}
use Rattle.z_assemble.proofs.places.places_of.Given as goal

abbrev pub invariant-loop-part : goal.invariant-loop-part
invariant-loop-part l = record {
  same : l.places.items ≡ places_from 0 (take (4096 * l.part) l.marks);
  inside : All (λ place. place < length l.marks) l.places.items;
}
