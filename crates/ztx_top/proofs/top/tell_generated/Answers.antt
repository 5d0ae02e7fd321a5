use Rattle.listing_answers.specs.Due.{IsGenerated}
use Rattle.ztx_top.proofs.Inputs.{given, given_is}
use Rattle.ztx_top.proofs.Told.{wrote, cut}
use Rattle.ztx_top.proofs.top.tell_generated.Goals as goal

pub returns-in-Ok-clause-whole : goal.returns-in-Ok-clause-whole
returns-in-Ok-clause-whole g c = λ left whole.
    let told = rw c.as_slice.ensures.value at c.tell.ensures.done in
    wrote (λ input. IsGenerated c.args.number) left (given left) c.in-Ok.answer.status
    c.in-Ok.answer.text.items
    (g.K.Sink.held c.args.sink.now) (g.K.Sink.held c.tell.new.sink) (given_is left) c.in-Ok.ensures.due
    c.tell.result c.tell.ensures.statuses told whole

pub returns-in-Ok-clause-cut : goal.returns-in-Ok-clause-cut
returns-in-Ok-clause-cut g c = λ left is.
    let told = rw c.as_slice.ensures.value at c.tell.ensures.cut in
    cut (λ input. IsGenerated c.args.number) left (given left) c.in-Ok.answer.status
    c.in-Ok.answer.text.items
    (g.K.Sink.held c.args.sink.now) (g.K.Sink.held c.tell.new.sink) (given_is left) c.in-Ok.ensures.due
    (told is)
