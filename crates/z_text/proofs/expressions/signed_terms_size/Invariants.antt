use Rattle.std.proofs.Common.{◌≡◌, ◌+◌, ◌-◌, ◌≤◌, length, drop}
use Rattle.z_text.specs.Expressions.{signed_terms_size}
use Rattle.z_text.proofs.expressions.signed_terms_size.Given as goal

abbrev pub invariant-loop-size : goal.invariant-loop-size
invariant-loop-size l = record {
  within : l.size ≤ length l.tokens;
  same : l.size + signed_terms_size (drop l.size l.tokens) ≡ signed_terms_size l.tokens;
}

abbrev pub decreases-loop-size : goal.decreases-loop-size
decreases-loop-size l = length l.tokens - l.size
