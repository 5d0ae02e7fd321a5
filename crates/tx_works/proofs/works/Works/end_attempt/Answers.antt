-- The attempt of one CPU is aborted, with storage.
use Rattle.std.proofs.Common.{refl, ◌∙◌}
use Rattle.tx_progress.specs.Local.{aborted}
use Rattle.tx_works.specs.contracts.slot.Slot.{the_view}
use Rattle.tx_works.specs.contracts.works.Works as works
use Rattle.tx_works.proofs.Seats.{IsAt, left-is, aborted-counted}
use Rattle.tx_works.proofs.works.Works.end_attempt.Goals as goal

pub invariant_of-slot : goal.invariant_of-slot
invariant_of-slot c =
    let s = the_view c.slot.inside in
    aborted-counted s (record s { cpu = c.abort.new.cpu }) c.self.inside.lines c.abort.new.self c.args.why c.args.at
    c.slot.invariant refl c.abort.ensures.value

pub returns-clause-value : goal.returns-clause-value
returns-clause-value c rest =
    let at : IsAt (works.the_view c.self.inside) c.args.self.now c.args.cpu (the_view c.slot.inside) = record {
      other = c.index_mut-slot.result.now;
      view = c.self.view_is;
      known = c.requires.cpu;
      is = c.slot.view_is ∙ c.index_mut-slot.ensures.value;
    } in
    let s = the_view c.slot.inside in
    left-is rest (works.the_view c.self.inside) c.args.self.now c.args.cpu s (record s { cpu = c.abort.new.cpu })
    c.abort.new.self (aborted c.args.why c.args.at) at refl refl c.abort.ensures.value c.abort.ensures.held
