use Rattle.std.proofs.Common.{◌≡◌, ℕ, ◌≤◌, ◌<◌, ◌+◌, ◌++◌, length, take}
use Rattle.std.specs.Prelude.{All}
use Rattle.z_assemble.specs.Whole.{places_from}
use Rattle.z_assemble.proofs.places.add_marked.Given as goal

abbrev pub invariant-loop-k : goal.invariant-loop-k
invariant-loop-k l = record {
  same : l.places.items ≡ l.initial.places.items ++ places_from l.first (take l.k l.marks);
  inside : (n : ℕ) → l.first + length l.marks ≤ n → All (λ p. p < n) l.initial.places.items →
      All (λ p. p < n) l.places.items;
}
