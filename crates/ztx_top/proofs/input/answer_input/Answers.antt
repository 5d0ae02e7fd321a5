use Rattle.std.proofs.Common.{rules, subst, ℕ}
use Rattle.ztx_io.specs.Reads.{GivesUp, PassesLimit, ReadsWhole}
use Rattle.ztx_answers.specs.Requests.{most_of}
use Rattle.ztx_top.proofs.Inputs.{long_input, whole_input}
use Rattle.ztx_top.proofs.input.answer_input.Goals as goal

pub returns-in-Err-TooLong-clause-whole : goal.returns-in-Err-TooLong-clause-whole
returns-in-Err-TooLong-clause-whole g c = λ whole.
    let left = g.S.Source.left c.args.source.now in
    let after = g.S.Source.left c.read_all.new.source in
    let most = most_of c.args.request in
    let gives : GivesUp most left after c.in-Err-TooLong.field-0 =
    subst (λ (n : ℕ). GivesUp n left after c.in-Err-TooLong.field-0) c.most_bytes.ensures
    c.in-Err-TooLong.ensures.err in
    let passes : PassesLimit most left after = subst (GivesUp most left after) c.in-Err-TooLong.field-0-is gives in
    c.tell_long.ensures.whole left (long_input most left after passes) whole

pub returns-in-Err-TooLong-clause-cut : goal.returns-in-Err-TooLong-clause-cut
returns-in-Err-TooLong-clause-cut g c = λ is.
    let left = g.S.Source.left c.args.source.now in
    let after = g.S.Source.left c.read_all.new.source in
    let most = most_of c.args.request in
    let gives : GivesUp most left after c.in-Err-TooLong.field-0 =
    subst (λ (n : ℕ). GivesUp n left after c.in-Err-TooLong.field-0) c.most_bytes.ensures
    c.in-Err-TooLong.ensures.err in
    let passes : PassesLimit most left after = subst (GivesUp most left after) c.in-Err-TooLong.field-0-is gives in
    c.tell_long.ensures.cut left (long_input most left after passes) is

pub returns-in-Ok-clause-whole : goal.returns-in-Ok-clause-whole
returns-in-Ok-clause-whole g c = λ whole.
    let left = g.S.Source.left c.args.source.now in
    let after = g.S.Source.left c.read_all.new.source in
    let reads : ReadsWhole c.most_bytes.result left after c.as_slice.result.now = search rules in
    c.tell_due.ensures.whole left (whole_input _ left after _ reads) whole

pub returns-in-Ok-clause-cut : goal.returns-in-Ok-clause-cut
returns-in-Ok-clause-cut g c = λ is.
    let left = g.S.Source.left c.args.source.now in
    let after = g.S.Source.left c.read_all.new.source in
    let reads : ReadsWhole c.most_bytes.result left after c.as_slice.result.now = search rules in
    c.tell_due.ensures.cut left (whole_input _ left after _ reads) is
