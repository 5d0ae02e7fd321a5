use Rattle.std.proofs.Common.{◌∙◌, sym, subst}
use Rattle.tx_journal.specs.Numbers.{Lacks}
use Rattle.input_parts.proofs.Passing.{rest_of, none_behind}
use Rattle.input_parts.proofs.Marks.{same_text, other_text, unmarked_more, marked, marked_last, without_mark}
use Rattle.input_parts.proofs.parting.part.Goals as goal

pub returns-then-eq-clause-parted : goal.returns-then-eq-clause-parted
returns-then-eq-clause-parted c =
    let input = c.args.input.now in
    let from = c.loop-line.from in
    marked c.args.mark.now input from c.loop-line.invariant c.in-Some.line.now c.in-Some.behind.now
    (sym (rest_of input from) ∙ c.in-Some.ensures.some) c.in-Some.ensures.first
    (same_text c.args.mark.now c.in-Some.line.now c.eq.result c.eq.ensures c.if-eq.true) _ (rest_of input from)

pub loop-line-preserved : goal.loop-line-preserved
loop-line-preserved c =
    let input = c.args.input.now in
    let from = c.loop-line.from in
    unmarked_more c.args.mark.now input from c.loop-line.invariant c.in-Some.line.now c.in-Some.behind.now
    (sym (rest_of input from) ∙ c.in-Some.ensures.some) c.in-Some.ensures.first
    (other_text c.args.mark.now c.in-Some.line.now c.eq.result c.eq.ensures c.if-eq.false)

pub returns-then-eq-2-clause-parted : goal.returns-then-eq-2-clause-parted
returns-then-eq-2-clause-parted c =
    let input = c.args.input.now in
    let from = c.loop-line.from in
    marked_last c.args.mark.now input from c.loop-line.invariant
    (subst (Lacks 10) (rest_of input from) c.in_default.ensures.none) _ (none_behind input)
    (sym (rest_of input from) ∙ same_text c.args.mark.now _ c.eq-2.result c.eq-2.ensures c.if-eq-2.true)
    _ (rest_of input from)

pub returns-clause-parted : goal.returns-clause-parted
returns-clause-parted c =
    let input = c.args.input.now in
    let from = c.loop-line.from in
    without_mark c.args.mark.now input from c.loop-line.invariant
    (subst (Lacks 10) (rest_of input from) c.in_default.ensures.none) _ (none_behind input)
    (λ is. other_text c.args.mark.now _ c.eq-2.result c.eq-2.ensures c.if-eq-2.false (rest_of input from ∙ is))
