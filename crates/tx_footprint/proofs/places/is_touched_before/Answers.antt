use Rattle.std.proofs.Common.{sym, ◌∙◌}
use Rattle.tx_footprint.proofs.Marking.{storage_at, touched_at, still_untouched}
use Rattle.tx_footprint.proofs.places.is_touched_before.Goals as goal

pub span_of-span-requires : goal.span_of-span-requires
span_of-span-requires c =
    storage_at c.args.touches.now c.loop-i.i c.at.result c.requires.in_storage c.at.ensures

pub returns-then-has : goal.returns-then-has
returns-then-has c =
    sym (touched_at c.args.kind c.args.touches.now c.args.before c.loop-i.i c.at.result c.args.place
    c.at.ensures c.loop-i-test.true c.requires.some
    (sym (c.span_of-span.ensures.places c.args.place) ∙ sym (c.if-has.ensures)))

pub loop-i-preserved : goal.loop-i-preserved
loop-i-preserved c =
    still_untouched c.args.kind c.args.touches.now c.loop-i.i c.at.result c.args.place c.at.ensures
    c.loop-i.invariant
    (sym (c.span_of-span.ensures.places c.args.place) ∙ sym (c.if-has.ensures))
