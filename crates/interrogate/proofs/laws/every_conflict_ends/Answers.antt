use Rattle.interrogate.specs.Replies.{reply, conflicts, may_hold_out, cause_at}
use Rattle.interrogate.proofs.Cases.{yields_iff}
use Rattle.interrogate.proofs.laws.every_conflict_ends.Goals as goal

pub returns : goal.returns
unfolding reply
returns c = λ live fetched stored standing line mode asker.
    yields_iff (conflicts live fetched stored line mode) (may_hold_out standing asker) (cause_at stored line)
