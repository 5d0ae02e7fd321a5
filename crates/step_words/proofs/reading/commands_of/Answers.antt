use Rattle.std.proofs.Common.{◌∙◌, sym, subst, List, ℕ}
use Rattle.tx_journal.specs.Numbers.{Lacks}
use Rattle.input_parts.proofs.Passing.{rest_of}
use Rattle.step_words.specs.Commands.{IsFair}
use Rattle.step_words.specs.Faults.{Adds}
use Rattle.step_words.proofs.LineByLine.{line_is_fair, read_more, last_is_fair, all_read}
use Rattle.step_words.proofs.reading.commands_of.Goals as goal

pub add_line-requires : goal.add_line-requires
add_line-requires c =
    let text = c.args.text.now in
    let at = c.loop-line in
    line_is_fair c.args.cpus text at.from at.commands.items at.invariant c.in-Some.line.now c.in-Some.field-0-1.now
    (sym (rest_of text at.from) ∙ c.in-Some.ensures.some) c.in-Some.ensures.first c.requires

pub loop-line-preserved : goal.loop-line-preserved
loop-line-preserved c =
    let text = c.args.text.now in
    let at = c.loop-line in
    read_more c.args.cpus text at.from at.commands.items at.invariant c.in-Some.line.now c.in-Some.field-0-1.now
    (sym (rest_of text at.from) ∙ c.in-Some.ensures.some) c.in-Some.ensures.first c.add_line.new.commands.items
    c.in_ok-add_line.ensures

pub add_line-requires-2 : goal.add_line-requires-2
add_line-requires-2 c =
    let text = c.args.text.now in
    let at = c.loop-line in
    subst (IsFair c.args.cpus) (sym (rest_of text at.from))
    (last_is_fair c.args.cpus text at.from at.commands.items at.invariant
    (subst (Lacks 10) (rest_of text at.from) c.in_default.ensures.none) c.requires)

pub returns : goal.returns
returns c =
    let text = c.args.text.now in
    let at = c.loop-line in
    all_read c.args.cpus text at.from at.commands.items at.invariant
    (subst (Lacks 10) (rest_of text at.from) c.in_default.ensures.none) c.add_line-2.new.commands.items
    (subst (λ (l : List ℕ). Adds c.args.cpus l at.commands.items c.add_line-2.new.commands.items)
    (rest_of text at.from) c.in_ok-add_line-2.ensures)
