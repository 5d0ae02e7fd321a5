-- The block of one CPU goes into storage.
use Rattle.std.proofs.Common.{refl, ◌∙◌}
use Rattle.tx_progress.specs.Local.{block_stored}
use Rattle.tx_works.specs.contracts.slot.Slot.{the_view}
use Rattle.tx_works.specs.contracts.works.Works as works
use Rattle.tx_works.proofs.Seats.{IsAt, left-is, stored-counted}
use Rattle.tx_works.proofs.works.Works.put_block.Goals as goal

pub invariant_of-slot : goal.invariant_of-slot
invariant_of-slot c =
    let s = the_view c.slot.inside in
    stored-counted s (record s { cpu = c.store_block.new.cpu }) c.self.inside.lines c.store_block.new.self
    c.slot.invariant refl c.store_block.ensures.value

pub returns-clause-value : goal.returns-clause-value
returns-clause-value c rest =
    let at : IsAt (works.the_view c.self.inside) c.args.self.now c.args.cpu (the_view c.slot.inside) =
    record {
      other = c.index_mut-slot.result.now;
      view = c.self.view_is;
      known = c.requires;
      is = c.slot.view_is ∙ c.index_mut-slot.ensures.value;
    } in
    let s = the_view c.slot.inside in
    left-is rest (works.the_view c.self.inside) c.args.self.now c.args.cpu s
    (record s { cpu = c.store_block.new.cpu }) c.store_block.new.self block_stored at refl refl
    c.store_block.ensures.value c.store_block.ensures.held
