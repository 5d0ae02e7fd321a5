use Rattle.ztx_answers.specs.Races.{IsDueToRace}
use Rattle.ztx_top.proofs.Told.{wrote, cut}
use Rattle.ztx_top.proofs.race.tell_long_race.Goals as goal

pub returns-in-Ok-clause-whole : goal.returns-in-Ok-clause-whole
returns-in-Ok-clause-whole g c = λ turns tick left long whole.
    let told = rw c.as_slice.ensures.value at c.tell.ensures.done in
    let answer = c.in-Ok.answer in
    wrote (IsDueToRace turns tick) left long.input answer.status answer.text.items
    (g.K.Sink.held c.args.sink.now) (g.K.Sink.held c.tell.new.sink) long.is_input
    (c.in-Ok.ensures.due turns tick long.input long.long) c.tell.result c.tell.ensures.statuses told whole

pub returns-in-Ok-clause-cut : goal.returns-in-Ok-clause-cut
returns-in-Ok-clause-cut g c = λ turns tick left long is.
    let told = rw c.as_slice.ensures.value at c.tell.ensures.cut in
    let answer = c.in-Ok.answer in
    cut (IsDueToRace turns tick) left long.input answer.status answer.text.items
    (g.K.Sink.held c.args.sink.now) (g.K.Sink.held c.tell.new.sink) long.is_input
    (c.in-Ok.ensures.due turns tick long.input long.long) (told is)
