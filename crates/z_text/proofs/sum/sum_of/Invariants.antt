use Rattle.std.proofs.Common.{◌≡◌, ◌*◌, ◌^◌, pos, negsuc, ◌≤ℤ◌, false, drop}
use Rattle.z_text.specs.Expressions.{sum_of, total}
use Rattle.z_text.proofs.sum.sum_of.Given as goal

abbrev pub invariant-loop-token : goal.invariant-loop-token
invariant-loop-token l = record {
  total : total l.text l.labels l.here l.sum (drop l.token-index l.tokens) ≡
      sum_of l.text l.labels l.here false l.tokens;
  low : negsuc (2 ^ 64 * l.token-index) ≤ℤ l.sum.value;
  high : l.sum.value ≤ℤ pos (2 ^ 64 * l.token-index);
}
