-- The conflict that there is is counted.
use Rattle.std.proofs.Common.{◌++◌, sym, subst}
use Rattle.tx_heat.specs.Conflicts.{conflict_where}
use Rattle.tx_heat.specs.Watched.{AreCounted}
use Rattle.tx_heat.proofs.following.count_at.Goals as goal

pub returns-in-Some-clause-counted : goal.returns-in-Some-clause-counted
returns-in-Some-clause-counted c = λ m s e found tracks speaks counted.
    subst (λ at. AreCounted c.count_one.new.lines (found ++ conflict_where m s e c.args.rejected at)) (sym c.in-Some.is)
    (c.count_one.ensures.counted m s e found tracks speaks counted)
