-- The program of one CPU is stopped.
use Rattle.std.proofs.Common.{refl, ◌∙◌}
use Rattle.tx_progress.specs.Local.{Beside}
use Rattle.tx_progress.specs.Doing.{stopped}
use Rattle.tx_lines.specs.Owned.{storage_in}
use Rattle.tx_works.specs.contracts.slot.Slot.{the_view}
use Rattle.tx_works.specs.contracts.works.Works as works
use Rattle.tx_works.proofs.Seats.{IsAt, left-is, live-is, no_seat, halted-counted}
use Rattle.tx_works.proofs.works.Works.halt.Goals as goal

pub invariant_of-slot : goal.invariant_of-slot
invariant_of-slot c =
    let at : IsAt (works.the_view c.self.inside) c.args.self.now c.args.cpu (the_view c.slot.inside) =
    record {
      other = c.index_mut-slot.result.now;
      view = c.self.view_is;
      known = c.requires.cpu;
      is = c.slot.view_is ∙ c.index_mut-slot.ensures.value;
    } in
    let s = the_view c.slot.inside in
    halted-counted s (record s { cpu = c.stop.new.self }) c.args.e c.slot.invariant refl
    (live-is (works.the_view c.self.inside) c.args.self.now c.args.cpu s at ∙ c.requires.live no_seat)
    c.stop.ensures

pub returns-clause-value : goal.returns-clause-value
returns-clause-value c rest =
    let at : IsAt (works.the_view c.self.inside) c.args.self.now c.args.cpu (the_view c.slot.inside) =
    record {
      other = c.index_mut-slot.result.now;
      view = c.self.view_is;
      known = c.requires.cpu;
      is = c.slot.view_is ∙ c.index_mut-slot.ensures.value;
    } in
    let s = the_view c.slot.inside in
    left-is rest (works.the_view c.self.inside) c.args.self.now c.args.cpu s
    (record s { cpu = c.stop.new.self })
    c.self.inside.lines (λ (b : Beside). record { local = stopped c.args.e b.local; storage = b.storage })
    at refl
    refl (λ x. record { local = c.stop.ensures x; storage = storage_in c.self.inside.lines }) refl
