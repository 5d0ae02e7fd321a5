use Rattle.std.proofs.Common.{rules, subst}
use Rattle.ztx_io.specs.Reads.{GivesUp, PassesLimit, ReadsWhole}
use Rattle.ztx_top.proofs.Inputs.{long_input, whole_input}
use Rattle.ztx_top.proofs.race.race_input.Goals as goal

pub returns-in-Err-TooLong-clause-whole : goal.returns-in-Err-TooLong-clause-whole
returns-in-Err-TooLong-clause-whole g c = λ whole.
    let left = g.S.Source.left c.args.source.now in
    let after = g.S.Source.left c.read_all.new.source in
    let passes : PassesLimit 16777216 left after =
    subst (GivesUp 16777216 left after) c.in-Err-TooLong.field-0-is c.in-Err-TooLong.ensures.err in
    c.tell_long_race.ensures.whole c.args.turns c.args.tick left (long_input 16777216 left after passes) whole

pub returns-in-Err-TooLong-clause-cut : goal.returns-in-Err-TooLong-clause-cut
returns-in-Err-TooLong-clause-cut g c = λ is.
    let left = g.S.Source.left c.args.source.now in
    let after = g.S.Source.left c.read_all.new.source in
    let passes : PassesLimit 16777216 left after =
    subst (GivesUp 16777216 left after) c.in-Err-TooLong.field-0-is c.in-Err-TooLong.ensures.err in
    c.tell_long_race.ensures.cut c.args.turns c.args.tick left (long_input 16777216 left after passes) is

pub returns-in-Ok-clause-whole : goal.returns-in-Ok-clause-whole
returns-in-Ok-clause-whole g c = λ whole.
    let left = g.S.Source.left c.args.source.now in
    let after = g.S.Source.left c.read_all.new.source in
    let reads : ReadsWhole 16777216 left after c.as_slice.result.now = search rules in
    c.tell_race.ensures.whole left (whole_input _ left after _ reads) whole

pub returns-in-Ok-clause-cut : goal.returns-in-Ok-clause-cut
returns-in-Ok-clause-cut g c = λ is.
    let left = g.S.Source.left c.args.source.now in
    let after = g.S.Source.left c.read_all.new.source in
    let reads : ReadsWhole 16777216 left after c.as_slice.result.now = search rules in
    c.tell_race.ensures.cut left (whole_input _ left after _ reads) is
