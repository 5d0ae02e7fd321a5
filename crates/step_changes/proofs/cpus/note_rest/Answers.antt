-- The four parts are put one after the other.
use Rattle.step_changes.proofs.Parted.{goes_on_at}
use Rattle.step_changes.proofs.cpus.note_rest.Goals as goal

pub returns-clause-adds : goal.returns-clause-adds
returns-clause-adds c =
    let at = c.args.at in
    let first = c.args.changes.now.items in
    let sight = c.args.sight.now in
    goes_on_at at first c.note_part-3.new.changes.items c.note_part-4.new.changes.items sight
    c.note_part-3.new.sight c.note_part-4.new.sight
    (goes_on_at at first c.note_part-2.new.changes.items c.note_part-3.new.changes.items sight
    c.note_part-2.new.sight c.note_part-3.new.sight
    (goes_on_at at first c.note_part.new.changes.items c.note_part-2.new.changes.items sight
    c.note_part.new.sight c.note_part-2.new.sight c.in_ok-note_part.ensures.adds c.in_ok-note_part-2.ensures.adds)
    c.in_ok-note_part-3.ensures.adds)
    c.in_ok-note_part-4.ensures.adds
