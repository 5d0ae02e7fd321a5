use Rattle.std.specs.Prelude.{nat_eq}
use Rattle.tx_lending.specs.Places.{places_from}
use Rattle.tx_marks.specs.Traces.{is_stored, is_paged, lies_on}
use Rattle.tx_marks.proofs.BytesTouched.{stored_marked}
use Rattle.tx_marks.proofs.traces.Traces.mark_operands.Goals as goal

pub loop-i-preserved : goal.loop-i-preserved
loop-i-preserved c = record {
  stored = λ a. stored_marked (nat_eq a) (λ r. places_from c.args.prefix r.first r.length) c.args.need.now
      c.loop-i.i c.at-range.result (is_stored c.args.self.now a) (is_stored c.loop-i.self a)
      (is_stored c.mark_operand.new.self a) c.at-range.ensures (c.loop-i.invariant.stored a)
      (c.mark_operand.ensures.stored a);
  pages = λ p. stored_marked (lies_on p) (λ r. places_from c.args.prefix r.first r.length) c.args.need.now
      c.loop-i.i c.at-range.result (is_paged c.args.self.now p) (is_paged c.loop-i.self p)
      (is_paged c.mark_operand.new.self p) c.at-range.ensures (c.loop-i.invariant.pages p)
      (c.mark_operand.ensures.pages p);
}
