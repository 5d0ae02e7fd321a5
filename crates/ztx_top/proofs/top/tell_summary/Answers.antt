use Rattle.ztx_answers.specs.Reports.{IsSummary}
use Rattle.ztx_top.proofs.Inputs.{given, given_is}
use Rattle.ztx_top.proofs.Told.{wrote, cut}
use Rattle.ztx_top.proofs.top.tell_summary.Goals as goal

pub returns-in-Ok-clause-whole : goal.returns-in-Ok-clause-whole
returns-in-Ok-clause-whole g c = λ left whole.
    let told = rw c.as_slice.ensures.value at c.tell.ensures.done in
    wrote (λ input. IsSummary c.args.number) left (given left) c.in-Ok.answer.status
    c.in-Ok.answer.text.items
    (g.K.Sink.held c.args.sink.now) (g.K.Sink.held c.tell.new.sink) (given_is left) c.in-Ok.ensures.due
    c.tell.result c.tell.ensures.statuses told whole

pub returns-in-Ok-clause-cut : goal.returns-in-Ok-clause-cut
returns-in-Ok-clause-cut g c = λ left is.
    let told = rw c.as_slice.ensures.value at c.tell.ensures.cut in
    cut (λ input. IsSummary c.args.number) left (given left) c.in-Ok.answer.status
    c.in-Ok.answer.text.items
    (g.K.Sink.held c.args.sink.now) (g.K.Sink.held c.tell.new.sink) (given_is left) c.in-Ok.ensures.due
    (told is)
