use Rattle.ztx_answers.specs.Races.{IsDueToRace}
use Rattle.ztx_top.proofs.Told.{wrote, cut}
use Rattle.ztx_top.proofs.race.tell_race.Goals as goal

pub returns-in-Ok-clause-whole : goal.returns-in-Ok-clause-whole
returns-in-Ok-clause-whole g c = λ left is_input whole.
    let told = rw c.as_slice.ensures.value at c.tell.ensures.done in
    let answer = c.in-Ok.answer in
    wrote (IsDueToRace c.args.turns c.args.tick) left c.args.input.now answer.status answer.text.items
    (g.K.Sink.held c.args.sink.now) (g.K.Sink.held c.tell.new.sink) is_input
    c.in-Ok.ensures.due c.tell.result c.tell.ensures.statuses told whole

pub returns-in-Ok-clause-cut : goal.returns-in-Ok-clause-cut
returns-in-Ok-clause-cut g c = λ left is_input is.
    let told = rw c.as_slice.ensures.value at c.tell.ensures.cut in
    let answer = c.in-Ok.answer in
    cut (IsDueToRace c.args.turns c.args.tick) left c.args.input.now answer.status answer.text.items
    (g.K.Sink.held c.args.sink.now) (g.K.Sink.held c.tell.new.sink) is_input
    c.in-Ok.ensures.due (told is)
