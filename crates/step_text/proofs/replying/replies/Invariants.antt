-- The first commands have been replied to.
use Rattle.step_text.proofs.Following.{Replied}
use Rattle.step_text.proofs.replying.replies.Given as goal

abbrev pub invariant-loop-command : goal.invariant-loop-command
invariant-loop-command l = Replied l.initial.trace l.commands l.command-index l.trace l.text.items
