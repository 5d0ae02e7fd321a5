use Rattle.std.proofs.Common.{◌≡◌, ℕ, ◌<◌}
use Rattle.z_instr.specs.Table.{entry_at}
use Rattle.z_instr.proofs.lookup.find.Given as goal

-- no earlier row has the name
abbrev pub invariant-loop-number : goal.invariant-loop-number
invariant-loop-number l = (n : ℕ) → n < l.number → (entry_at n).name ≡ l.name → ⊥
