use Rattle.std.proofs.Common.{◌∙◌}
use Rattle.std.specs.Prelude.{nat_eq}
use Rattle.tx_lending.specs.Places.{places_from}
use Rattle.tx_marks.specs.Own.{is_touched}
use Rattle.tx_marks.proofs.BytesTouched.{operand_marked}
use Rattle.tx_marks.proofs.bytes.OwnBytes.touch_operands.Goals as goal

pub loop-i-preserved : goal.loop-i-preserved
loop-i-preserved c = record {
  bytes = c.touch_places.ensures.now ∙ c.loop-i.invariant.bytes;
  before = λ a. c.touch_places.ensures.given a ∙ c.loop-i.invariant.before a;
  marks = λ a. operand_marked (nat_eq a) (λ r. places_from c.args.prefix r.first r.length) c.args.need.now
      c.loop-i.i c.at-range.result (is_touched c.args.self.now a) (is_touched c.loop-i.self a)
      (is_touched c.touch_places.new.self a) c.at-range.ensures (c.loop-i.invariant.marks a)
      (c.touch_places.ensures.touched a);
}
