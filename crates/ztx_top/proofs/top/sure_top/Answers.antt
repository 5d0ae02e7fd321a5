use Rattle.std.proofs.Common.{map}
use Rattle.std.specs.Prelude.{string_bytes}
use Rattle.ztx_top.specs.Asked.{asked, due}
use Rattle.ztx_top.proofs.Only.{no_rise, one_due, tells}
use Rattle.ztx_top.proofs.top.sure_top.Goals as goal

pub returns-clause-answer : goal.returns-clause-answer
returns-clause-answer g c = λ settled status text is_due.
    let told = c.ztx_top.ensures in
    let command = asked (map string_bytes c.args.words.now) in
    tells (due command) _ (one_due c.one_answer_is_due.ensures.one command _ settled) status text is_due _ _ c.ztx_top.result
    (λ two. no_rise (told.source two).1) (λ three. no_rise (told.sink three)) told.whole told.cut

pub returns-clause-whole : goal.returns-clause-whole
returns-clause-whole g c = λ one.
    let told = c.ztx_top.ensures in
    told.whole (one, (λ two. no_rise (told.source two).1), (λ three. no_rise (told.sink three)))
