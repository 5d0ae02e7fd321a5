use Rattle.std.proofs.Common.{arith}
use Rattle.report_form.specs.Text.{lines_of}
use Rattle.report_form.proofs.Walks.{stop_in, pass_more}
use Rattle.report_form.proofs.lines.follow.Goals as goal

pub returns-in-Err : goal.returns-in-Err
returns-in-Err c = (
  stop_in c.args.last c.args.parts.now c.loop-part.part-index _ (lines_of c.args.text.now) c.args.at.line
      c.loop-part.place.line c.in-Err.fault (omega arith) c.loop-part.invariant.0 c.in-Err.ensures.0,
  c.in-Err.ensures.1,
)

pub loop-part-preserved : goal.loop-part-preserved
loop-part-preserved c = (
  pass_more c.args.last c.args.parts.now c.loop-part.part-index _ (lines_of c.args.text.now) c.args.at.line
      c.loop-part.place.line c.in-Ok.behind.line (omega arith) c.loop-part.invariant.0 c.in-Ok.ensures.0,
  c.in-Ok.ensures.1,
)
