use Rattle.std.proofs.Common.{◌∙◌, sym, subst}
use Rattle.std.proofs.lemmas.Bool.{false≢true}
use Rattle.tx_journal.specs.Numbers.{Lacks}
use Rattle.input_parts.proofs.Passing.{rest_of}
use Rattle.step_words.specs.Commands.{IsFair}
use Rattle.step_words.proofs.LineByLine.{look_more, bad_line, all_fair, bad_last}
use Rattle.step_words.proofs.reading.first_bad.Goals as goal

pub returns-then-not-is_fair-clause-some : goal.returns-then-not-is_fair-clause-some
returns-then-not-is_fair-clause-some c =
    let text = c.args.text.now in
    let at = c.loop-line in
    bad_line c.args.cpus text at.from at.number at.invariant c.in-Some.line.now c.in-Some.field-0-1.now
    (sym (rest_of text at.from) ∙ c.in-Some.ensures.some) c.in-Some.ensures.first
    (λ fair. false≢true (sym c.if-not-is_fair.true ∙ c.is_fair.ensures.1 fair))

pub loop-line-preserved : goal.loop-line-preserved
loop-line-preserved c =
    let text = c.args.text.now in
    let at = c.loop-line in
    look_more c.args.cpus text at.from at.number at.invariant c.in-Some.line.now c.in-Some.field-0-1.now
    (sym (rest_of text at.from) ∙ c.in-Some.ensures.some) c.in-Some.ensures.first
    (c.is_fair.ensures.0 c.if-not-is_fair.false)

pub returns-then-is_fair-clause-none : goal.returns-then-is_fair-clause-none
returns-then-is_fair-clause-none c =
    let text = c.args.text.now in
    let at = c.loop-line in
    all_fair c.args.cpus text at.from at.number at.invariant
    (subst (Lacks 10) (rest_of text at.from) c.in_default.ensures.none)
    (subst (IsFair c.args.cpus) (rest_of text at.from) (c.is_fair-2.ensures.0 c.if-is_fair.true))

pub returns-clause-some : goal.returns-clause-some
returns-clause-some c =
    let text = c.args.text.now in
    let at = c.loop-line in
    bad_last c.args.cpus text at.from at.number at.invariant
    (subst (Lacks 10) (rest_of text at.from) c.in_default.ensures.none)
    (λ fair. false≢true (sym c.if-is_fair.false
    ∙ c.is_fair-2.ensures.1 (subst (IsFair c.args.cpus) (sym (rest_of text at.from)) fair)))
