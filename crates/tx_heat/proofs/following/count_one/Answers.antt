-- The conflict is counted.
use Rattle.std.proofs.Common.{refl, sym, ◌∙◌}
use Rattle.tx_heat.specs.Conflicts.{conflict}
use Rattle.tx_heat.proofs.following.count_one.Goals as goal

pub returns-then-at-lt-LINES-clause-counted : goal.returns-then-at-lt-LINES-clause-counted
returns-then-at-lt-LINES-clause-counted c = λ m s e found tracks speaks counted.
    let holder = c.args.at.0 in
    let line = c.args.at.1 in
    c.count.ensures.counted found (conflict m s e holder line c.args.rejected) refl refl
    (sym (speaks.apart holder line) ∙ sym (c.are_apart.ensures m s tracks)) counted
