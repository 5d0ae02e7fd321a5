-- No line so far has a conflict.
use Rattle.std.proofs.Common.{◌≡◌, ℕ, Some, length, []}
use Rattle.std.specs.Prelude.{slice_get}
use Rattle.tx_heat.specs.Heats.{line_heat}
use Rattle.tx_heat.specs.declared.counting.LineHeat.{LineHeat}
use Rattle.tx_heat.proofs.counting.cold.Given as goal

abbrev pub invariant-loop-line : goal.invariant-loop-line
invariant-loop-line l = record {
  none : (j : ℕ) (h : LineHeat) → slice_get l.lines.items j ≡ Some h → h ≡ l.none;
  zero : l.none ≡ line_heat [] 0;
  count : length l.lines.items ≡ l._line;
}
