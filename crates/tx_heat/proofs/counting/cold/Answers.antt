-- No line has a conflict.
use Rattle.std.proofs.Common.{◌∙◌, arith}
use Rattle.tx_heat.proofs.Counted.{cold_counted}
use Rattle.tx_heat.proofs.counting.cold.Goals as goal

pub returns : goal.returns
returns c =
    let kept = c.loop-line.invariant in
    cold_counted c.loop-line.lines.items (omega arith) (λ k h e. kept.none k h e ∙ kept.zero)
