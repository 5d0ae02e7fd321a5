-- One range more is marked.
use Rattle.std.proofs.Common.{true, false, sym, ap, ◌∙◌, take}
use Rattle.std.specs.Prelude.{◌||◌, ◌&&◌}
use Rattle.z_regs.specs.declared.ranges.Range.{Range}
use Rattle.tx_footprint.specs.Places.{has_place}
use Rattle.tx_heat.specs.Marks.{is_marked}
use Rattle.tx_heat.specs.Octowords.{meets}
use Rattle.tx_heat.proofs.Ranges.{any_more}
use Rattle.std.proofs.Math.Bool.{or-false, or_assoc}
use Rattle.tx_heat.proofs.octowords.mark.Goals as goal

pub loop-i-init : goal.loop-i-init
unfolding meets
loop-i-init c = record {
  touched_size = c.requires.touched;
  stored_size = c.requires.stored;
  touched = λ k. sym (or-false (is_marked c.args.touched.now k));
  stored = λ k. sym (or-false (is_marked c.args.stored.now k));
}

pub loop-i-preserved : goal.loop-i-preserved
unfolding meets
loop-i-preserved c =
    let made = c.mark_range.ensures in
    let ranges = c.args.ranges.now in
    let i = c.loop-i.i in
    record {
      touched_size = made.touched_size;
      stored_size = made.stored_size;
      touched = λ k.
          let test = λ (r : Range). (true || r.store) && has_place 32 r k in
          made.touched k
          ∙ ap (λ b. b || test c.at.result) (c.loop-i.invariant.touched k)
          ∙ or_assoc (is_marked c.args.touched.now k) (meets true (take i ranges) k) (test c.at.result)
          ∙ ap (λ b. is_marked c.args.touched.now k || b) (sym (any_more test ranges i c.at.result c.at.ensures));
      stored = λ k.
          let test = λ (r : Range). (false || r.store) && has_place 32 r k in
          made.stored k
          ∙ ap (λ b. b || test c.at.result) (c.loop-i.invariant.stored k)
          ∙ or_assoc (is_marked c.args.stored.now k) (meets false (take i ranges) k) (test c.at.result)
          ∙ ap (λ b. is_marked c.args.stored.now k || b) (sym (any_more test ranges i c.at.result c.at.ensures));
    }
