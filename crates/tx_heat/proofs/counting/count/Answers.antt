-- The conflict is counted at its line.
use Rattle.std.proofs.Common.{get_or}
use Rattle.std.specs.Prelude.{not}
use Rattle.bit_set.specs.Counts.{one_if}
use Rattle.tx_heat.specs.declared.counting.LineHeat.{LineHeat}
use Rattle.tx_heat.proofs.Counted.{plus_is, counted_as, room_here}
use Rattle.tx_heat.proofs.counting.count.Goals as goal

abbrev none : LineHeat
none = record { rejects = 0; aborts = 0; disjoint = 0 }

pub returns-then-at-lines-clause-counted : goal.returns-then-at-lines-clause-counted
returns-then-at-lines-clause-counted c = λ found conflict here kind off counted.
    let told = c.args.clash in
    let e = c.with_one.ensures in
    counted_as c.args.lines.now found conflict c.with_one.result none told.line told.rejected told.apart here kind off
    c.if-at-lines.true
    (plus_is c.with_one.result (get_or c.args.lines.now told.line none) (one_if told.rejected)
    (one_if (not told.rejected)) (one_if told.apart) e.rejects e.aborts e.disjoint)
    counted

pub returns-then-at-lines-clause-room : goal.returns-then-at-lines-clause-room
returns-then-at-lines-clause-room c = λ n room.
    let told = c.args.clash in
    let e = c.with_one.ensures in
    room_here c.args.lines.now told.line c.with_one.result none n told.rejected (not told.rejected) told.apart
    c.if-at-lines.true
    (plus_is c.with_one.result (get_or c.args.lines.now told.line none) (one_if told.rejected)
    (one_if (not told.rejected)) (one_if told.apart) e.rejects e.aborts e.disjoint)
    room
