use Rattle.std.proofs.Common.{refl}
use Rattle.ztx_top.specs.Asked.{IsBadWords, bad_words}
use Rattle.ztx_top.proofs.Inputs.{given, given_is}
use Rattle.ztx_top.proofs.Told.{wrote, cut}
use Rattle.ztx_top.proofs.top.tell_bad_words.Goals as goal

due : IsBadWords 4 bad_words
due = record { status_is = refl; text_is = refl }

pub returns-clause-whole : goal.returns-clause-whole
returns-clause-whole g c = λ left whole.
    wrote (λ input. IsBadWords) left (given left) 4 bad_words (g.K.Sink.held c.args.sink.now)
    (g.K.Sink.held c.tell.new.sink) (given_is left) due c.tell.result c.tell.ensures.statuses
    c.tell.ensures.done whole

pub returns-clause-cut : goal.returns-clause-cut
returns-clause-cut g c = λ left is.
    cut (λ input. IsBadWords) left (given left) 4 bad_words (g.K.Sink.held c.args.sink.now)
    (g.K.Sink.held c.tell.new.sink) (given_is left) due (c.tell.ensures.cut is)
