-- The ladder of one CPU is raised.
use Rattle.std.proofs.Common.{◌≡◌, ◌<◌, ap, sym, subst, ◌∙◌, true}
use Rattle.tx_ladder.specs.Rungs.{next_rung}
use Rattle.tx_works.specs.Works.{Seat}
use Rattle.tx_works.specs.contracts.slot.Slot.{the_view}
use Rattle.tx_works.specs.contracts.works.Works as works
use Rattle.tx_works.proofs.Seats.{IsAt, no_seat, seat-is, raised-is}
use Rattle.tx_works.proofs.works.Works.raise.Goals as goal

pub conflict-requires : goal.conflict-requires
conflict-requires c =
    let at : IsAt (works.the_view c.self.inside) c.args.self.now c.args.cpu (the_view c.slot.inside) = record {
      other = c.index_mut-slot.result.now;
      view = c.self.view_is;
      known = c.requires.cpu;
      is = c.slot.view_is ∙ c.index_mut-slot.ensures.value;
    } in
    subst (λ (s : Seat). s.ladder.constrained ≡ true → s.ladder.aborts < s.ladder.parms.stop)
    (sym (seat-is (works.the_view c.self.inside) c.args.self.now c.args.cpu (the_view c.slot.inside) no_seat at))
    (c.requires.climbs no_seat).below

pub returns-clause-next : goal.returns-clause-next
returns-clause-next c rest =
    let at : IsAt (works.the_view c.self.inside) c.args.self.now c.args.cpu (the_view c.slot.inside) = record {
      other = c.index_mut-slot.result.now;
      view = c.self.view_is;
      known = c.requires.cpu;
      is = c.slot.view_is ∙ c.index_mut-slot.ensures.value;
    } in
    c.conflict.ensures.next
    ∙ ap (λ (s : Seat). next_rung s.ladder)
    (seat-is (works.the_view c.self.inside) c.args.self.now c.args.cpu (the_view c.slot.inside) rest at)

pub returns-clause-value : goal.returns-clause-value
returns-clause-value c rest =
    let at : IsAt (works.the_view c.self.inside) c.args.self.now c.args.cpu (the_view c.slot.inside) = record {
      other = c.index_mut-slot.result.now;
      view = c.self.view_is;
      known = c.requires.cpu;
      is = c.slot.view_is ∙ c.index_mut-slot.ensures.value;
    } in
    raised-is rest (works.the_view c.self.inside) c.args.self.now c.args.cpu (the_view c.slot.inside)
    c.conflict.new.self at c.conflict.ensures.raised
