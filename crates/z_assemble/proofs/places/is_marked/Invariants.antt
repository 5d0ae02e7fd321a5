use Rattle.std.proofs.Common.{◌≡◌, ℕ, false, [], take}
use Rattle.z_assemble.specs.Whole.{places_from}
use Rattle.z_assemble.proofs.places.is_marked.Given as goal

abbrev pub invariant-loop-mark : goal.invariant-loop-mark
invariant-loop-mark l = l.found ≡ false → (n : ℕ) → places_from n (take l.mark-index l.marks) ≡ []
