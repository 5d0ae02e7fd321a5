use Rattle.std.proofs.Common.{◌≡◌, IfOk, List, sym, subst}
use Rattle.step_words.specs.Commands.{AreCommands, IsFirstBad}
use Rattle.step_words.specs.Faults.{IsRefused}
use Rattle.step_words.specs.Words.{fault_line}
use Rattle.step_words.specs.declared.command.StepCommand.{StepCommand}
use Rattle.ztx_answers.proofs.Steps.{replied, command_refused}
use Rattle.ztx_answers.proofs.stepped.answer_commands.Goals as goal

pub returns-in-Ok-clause-due : goal.returns-in-Ok-clause-due
returns-in-Ok-clause-due c =
    let text = c.args.text.now in
    replied c.args.turns c.args.tick c.args.seed c.reply_to.result c.args.image text c.deref.result.now
    (subst (λ n. AreCommands n text c.deref.result.now) c.cpu_count.ensures.count
    (subst (λ (cs : List StepCommand). AreCommands c.cpu_count.result text cs) (sym c.deref.ensures.value)
    c.in-Ok.ensures.commands))
    c.reply_to.ensures.due

pub returns-clause-due : goal.returns-clause-due
returns-clause-due c =
    let text = c.args.text.now in
    let number = c.in-Err-Line.number in
    let first : IsFirstBad c.cpu_count.result text number =
    subst (IsRefused c.cpu_count.result text) c.in-Err-Line.field-0-is c.in-Err-Line.ensures.fault in
    let line = subst (λ n. IfOk c.refuse_command.result (λ a. a.text.items ≡ fault_line n)) c.in-Err-Line.number-is
    c.refuse_command.ensures.text in
    command_refused c.args.turns c.args.tick c.args.seed c.refuse_command.result c.args.image text number
    (subst (λ n. IsFirstBad n text number) c.cpu_count.ensures.count first) c.refuse_command.ensures.status
    line
