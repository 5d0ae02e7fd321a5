-- One CPU, and storage, have become what the turns make.
use Rattle.std.proofs.Common.{◌≡◌, ◌<◌, length, refl, sym, ap, subst, ◌∙◌}
use Rattle.tx_works.specs.Kept.{beside}
use Rattle.tx_works.specs.Away.{GoAway, ran}
use Rattle.tx_works.specs.Marks.{mode_in}
use Rattle.tx_works.specs.Works.{Seat, kept_by}
use Rattle.tx_works.specs.contracts.slot.Slot.{the_view}
use Rattle.tx_works.specs.contracts.works.Works as works
use Rattle.tx_works.proofs.Seats.{IsAt, beside-is}
use Rattle.tx_home.specs.Taken.{left_by}
use Rattle.tx_home.proofs.Brought.{brought-is, with_count}
use Rattle.tx_home.proofs.taking.bring.Goals as goal

here : (c : goal.After-works-1) → IsAt (works.the_view c.works.inside) c.args.works.now c.cpu.result (the_view c.slot.inside)
here c = record {
  other = c.index_mut-slot.result.now;
  view = c.works.view_is;
  known = subst (λ i. i < length c.args.works.now.slots) (sym c.cpu.ensures) c.requires.cpu;
  is = c.slot.view_is ∙ c.index_mut-slot.ensures.value;
}

pub returns-clause-value : goal.returns-clause-value
returns-clause-value c rest text agree =
    let r = c.args.run.now in
    let k = r.made.steps in
    let s = the_view c.slot.inside in
    let t : Seat = record s { cpu = c.bring.new.into; tally = with_count c.steps.result s.tally } in
    let count : t.tally ≡ with_count k s.tally = ap (λ n. with_count n s.tally) c.steps.ensures.value in
    brought-is rest (works.the_view c.works.inside) c.args.works.now c.cpu.result k s t c.bring.new.self
    (ran text k) (here c) refl count (c.bring.ensures.value text agree) c.bring.ensures.held
    ∙ ap (λ i. left_by i k (ran text k (beside (kept_by rest c.args.works.now) i)) (kept_by rest c.args.works.now)) c.cpu.ensures

pub returns-clause-away : goal.returns-clause-away
returns-clause-away c rest text agree =
    let r = c.args.run.now in
    subst (GoAway text (mode_in r.made.needed) r.made.steps)
    (beside-is rest (works.the_view c.works.inside) c.args.works.now c.cpu.result (the_view c.slot.inside) (here c)
    ∙ ap (beside (kept_by rest c.args.works.now)) c.cpu.ensures) (c.bring.ensures.away text agree)
