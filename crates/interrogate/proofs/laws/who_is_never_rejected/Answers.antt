use Rattle.interrogate.specs.Replies.{reply, conflicts, may_hold_out, cause_at}
use Rattle.interrogate.proofs.Cases.{never_rejects, not_the_head, not_a_late_one}
use Rattle.interrogate.proofs.laws.who_is_never_rejected.Goals as goal

pub returns-clause-head : goal.returns-clause-head
unfolding reply
returns-clause-head c = λ live fetched stored standing line mode asker head.
    never_rejects (conflicts live fetched stored line mode) (may_hold_out standing asker)
    (cause_at stored line) (not_the_head standing asker head)

pub returns-clause-late : goal.returns-clause-late
unfolding reply
returns-clause-late c = λ live fetched stored standing line mode asker late unconstrained.
    never_rejects (conflicts live fetched stored line mode) (may_hold_out standing asker)
    (cause_at stored line) (not_a_late_one standing asker late unconstrained)
