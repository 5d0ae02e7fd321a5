use Rattle.tx_meaning.specs.Turn.{happen}
use Rattle.tx_meaning.proofs.Heads.{head_unrejected}
use Rattle.tx_meaning.proofs.laws.nobody_rejects_the_head.Goals as goal

pub returns : goal.returns
unfolding happen
returns c = λ m s i head. head_unrejected m s i head
