use Rattle.std.proofs.Common.{◌+◌, ◌∙◌, sym, ap}
use Rattle.std.specs.Prelude.{◌||◌, nat_eq}
use Rattle.z_regs.specs.Prefix.{absolute_of}
use Rattle.tx_lending.specs.Places.{is_among}
use Rattle.tx_marks.specs.Own.{is_touched}
use Rattle.tx_marks.proofs.BytesTouched.{up_marked}
use Rattle.tx_marks.proofs.RunsPlaced.{among_run}
use Rattle.tx_marks.proofs.bytes.OwnBytes.touch_more.Goals as goal

pub loop-k-preserved : goal.loop-k-preserved
loop-k-preserved c = record {
  bytes = c.touch.ensures.now ∙ c.loop-k.invariant.bytes;
  before = λ a. c.touch.ensures.given a ∙ c.loop-k.invariant.before a;
  marks = λ a. up_marked (nat_eq a) c.args.prefix c.args.first c.loop-k.k (is_touched c.args.self.now a)
      (is_touched c.loop-k.self a) (is_touched c.touch.new.self a) (c.loop-k.invariant.marks a)
      (c.touch.ensures.touched a ∙ ap (λ p. is_touched c.loop-k.self a || nat_eq a p) (c.place_of.ensures
      ∙ ap (λ k. absolute_of c.args.prefix (c.args.first + k)) c.from.ensures));
}

pub returns-then-are_untouched-clause-touched : goal.returns-then-are_untouched-clause-touched
returns-then-are_untouched-clause-touched c = λ a.
    c.touch_run.ensures.touched a
    ∙ ap (λ b. is_touched c.args.self.now a || b) (sym (among_run c.args.first c.args.length a)
    ∙ sym (ap (λ places. is_among places a) (c.are_untouched.ensures.places c.if-are_untouched.true)))
