-- The interruption of one CPU goes into storage.
use Rattle.std.proofs.Common.{refl, ◌∙◌}
use Rattle.tx_progress.specs.Local.{interruption_taken}
use Rattle.tx_works.specs.contracts.slot.Slot.{the_view}
use Rattle.tx_works.specs.contracts.works.Works as works
use Rattle.tx_works.proofs.Seats.{IsAt, left-is, live-is, no_seat, interrupted-counted}
use Rattle.tx_works.proofs.works.Works.interrupt.Goals as goal

pub invariant_of-slot : goal.invariant_of-slot
invariant_of-slot c =
    let at : IsAt (works.the_view c.self.inside) c.args.self.now c.args.cpu (the_view c.slot.inside) =
    record {
      other = c.index_mut-slot.result.now;
      view = c.self.view_is;
      known = c.requires.cpu;
      is = c.slot.view_is ∙ c.index_mut-slot.ensures.value;
    } in
    let s = the_view c.slot.inside in
    interrupted-counted s (record s { cpu = c.take.new.cpu }) c.self.inside.lines c.take.new.self
    c.slot.invariant
    refl
    (live-is (works.the_view c.self.inside) c.args.self.now c.args.cpu s at ∙ c.requires.live no_seat)
    c.take.ensures.value

pub returns-clause-value : goal.returns-clause-value
returns-clause-value c rest =
    let at : IsAt (works.the_view c.self.inside) c.args.self.now c.args.cpu (the_view c.slot.inside) =
    record {
      other = c.index_mut-slot.result.now;
      view = c.self.view_is;
      known = c.requires.cpu;
      is = c.slot.view_is ∙ c.index_mut-slot.ensures.value;
    } in
    let s = the_view c.slot.inside in
    left-is rest (works.the_view c.self.inside) c.args.self.now c.args.cpu s
    (record s { cpu = c.take.new.cpu })
    c.take.new.self interruption_taken at refl refl c.take.ensures.value c.take.ensures.held
