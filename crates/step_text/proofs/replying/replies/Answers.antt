use Rattle.std.proofs.Common.{◌<◌, length, arith}
use Rattle.step_words.specs.declared.command.StepCommand.TheVariants.{Forward}
use Rattle.step_text.proofs.Following.{replied_more, all_replied}
use Rattle.step_text.proofs.replying.replies.Goals as goal

pub loop-command-preserved : goal.loop-command-preserved
loop-command-preserved c =
    let at = c.loop-command in
    let within : at.command-index < length c.args.commands.now = omega arith in
    replied_more c.args.trace.now c.args.commands.now at.command-index at.trace at.text.items at.invariant
    (Forward 0) within c.follow.new.trace c.add_reply.new.text.items c.follow.ensures c.in_ok-add_reply.ensures

pub returns : goal.returns
returns c =
    let at = c.loop-command in
    all_replied c.args.trace.now c.args.commands.now at.command-index at.trace at.text.items at.invariant
    (omega arith)
