-- The lines of one range more.
use Rattle.std.proofs.Common.{ap, sym, ◌∙◌, arith}
use Rattle.tx_meaning.specs.Needs.{lines_of}
use Rattle.tx_needs.specs.Needs.{with_numbers}
use Rattle.tx_needs.proofs.Ranges.{lines_more}
use Rattle.tx_needs.proofs.needs.lines_in.Goals as goal

pub loop-i-preserved : goal.loop-i-preserved
loop-i-preserved c = (
  c.put_lines.ensures.value
      ∙ ap (λ rising. with_numbers rising (lines_of c.at.result)) c.loop-i.invariant.0
      ∙ sym (lines_more c.args.ranges.now c.loop-i.i c.at.result c.at.ensures),
  omega (arith, c.put_lines.ensures.room, c.loop-i.invariant.1),
)
