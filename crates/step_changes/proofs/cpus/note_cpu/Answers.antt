-- The registers are put, and then the rest.
use Rattle.step_changes.proofs.Parted.{goes_on_at}
use Rattle.step_changes.proofs.cpus.note_cpu.Goals as goal

pub returns-clause-adds : goal.returns-clause-adds
returns-clause-adds c =
    let at = c.args.at in
    let first = c.args.changes.now.items in
    let sight = c.args.sight.now in
    goes_on_at at first c.note_access.new.changes.items c.note_rest.new.changes.items sight
    c.note_access.new.sight c.note_rest.new.sight
    (goes_on_at at first c.note_general.new.changes.items c.note_access.new.changes.items sight
    c.note_general.new.sight c.note_access.new.sight c.in_ok-note_general.ensures.adds
    c.in_ok-note_access.ensures.adds)
    c.in_ok-note_rest.ensures.adds
