use Rattle.std.proofs.Common.{refl}
use Rattle.std.proofs.lemmas.Result.{IfOk-weaker}
use Rattle.listing_answers.proofs.Given.{both}
use Rattle.run_answers.proofs.Ran.{is_status}
use Rattle.ztx_answers.proofs.Steps.{replies_due}
use Rattle.ztx_answers.proofs.stepped.reply_to.Goals as goal

pub returns-clause-due : goal.returns-clause-due
returns-clause-due c =
    both c.replies_of.result
    (λ a s t. λ listing text stands are. replies_due c.args.image c.args.turns c.args.tick c.args.seed
    c.in_ok-machine.machine c.run_planned.new.machine _ c.args.commands.now a.status a.text.items
    c.in_ok-machine.ensures c.run_planned.ensures refl s t listing text stands are)
    c.replies_of.ensures.status c.replies_of.ensures.text

pub returns-clause-statuses : goal.returns-clause-statuses
returns-clause-statuses c =
    IfOk-weaker c.replies_of.result _ _ (λ a s. is_status a.status _ _ s) c.replies_of.ensures.status
