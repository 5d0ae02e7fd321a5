use Rattle.tx_lending.proofs.Outside.{own_turns, own_go}
use Rattle.tx_lending.proofs.laws.what_is_left_to_do_changes_no_turn_outside.Goals as goal

pub returns-clause-makes : goal.returns-clause-makes
returns-clause-makes c = λ text held k local own s rests cpu attempt away.
    own_turns text held local own s rests cpu attempt k away

pub returns-clause-away : goal.returns-clause-away
returns-clause-away c = λ text held k local own s rests cpu attempt away.
    own_go text held local own s rests cpu attempt k away
