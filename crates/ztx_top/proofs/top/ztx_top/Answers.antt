use Rattle.std.proofs.Common.{ap, ◌∙◌, subst}
use Rattle.ztx_top.specs.declared.errand.Errand.{Errand}
use Rattle.ztx_top.specs.Answers.{Wrote, WasCut}
use Rattle.ztx_top.specs.Asked.{due, errand_of}
use Rattle.ztx_top.proofs.top.ztx_top.Goals as goal

pub returns-in-Ok-clause-whole : goal.returns-in-Ok-clause-whole
returns-in-Ok-clause-whole g c = λ is.
    subst (λ (a : Errand). Wrote (due a) (g.S.Source.left c.args.source.now) c.answer.result
    (g.K.Sink.held c.args.sink.now) (g.K.Sink.held c.answer.new.sink))
    (c.errand_of.ensures.value ∙ ap errand_of c.in-Ok.ensures.value) (c.answer.ensures.whole is)

pub returns-in-Ok-clause-cut : goal.returns-in-Ok-clause-cut
returns-in-Ok-clause-cut g c = λ is.
    subst (λ (a : Errand). WasCut (due a) (g.S.Source.left c.args.source.now)
    (g.K.Sink.held c.args.sink.now) (g.K.Sink.held c.answer.new.sink))
    (c.errand_of.ensures.value ∙ ap errand_of c.in-Ok.ensures.value) (c.answer.ensures.cut is)
