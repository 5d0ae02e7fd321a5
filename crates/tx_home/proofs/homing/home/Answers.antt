-- The turns of the run are turns of the machine.
use Rattle.std.proofs.Common.{sym, ◌∙◌}
use Rattle.tx_works.specs.Marks.{mode_in}
use Rattle.tx_works.specs.Kept.{text_of}
use Rattle.tx_meaning.specs.Limits.{Setting}
use Rattle.tx_works.specs.Works.{kept_by}
use Rattle.tx_works.proofs.Seats.{no_seat}
use Rattle.tx_home.proofs.homing.home.Goals as goal

pub take-requires-clause-room : goal.take-requires-clause-room
take-requires-clause-room c = c.requires.room no_seat (c.first_unlike.ensures.may no_seat c.in_default.is).may.turns

pub returns-clause-taken : goal.returns-clause-taken
returns-clause-taken c rest none =
    let m : Setting = record { image = c.args.program.now; limits = c.args.limits } in
    let r = c.args.run.now in
    let take = c.first_unlike.ensures.may rest c.in_default.is in
    c.take.ensures.value rest (text_of m) take.pages
    ∙ sym (c.lent_turns_are_turns.ensures.kept m r.cpu r.made.steps (mode_in r.made.needed) (kept_by rest c.args.works.now)
    take.may (c.take.ensures.away rest (text_of m) take.pages))

pub returns-clause-each : goal.returns-clause-each
returns-clause-each c rest j none lt =
    let m : Setting = record { image = c.args.program.now; limits = c.args.limits } in
    let r = c.args.run.now in
    let take = c.first_unlike.ensures.may rest c.in_default.is in
    c.lent_turns_are_turns.ensures.each m r.cpu r.made.steps (mode_in r.made.needed) (kept_by rest c.args.works.now)
    take.may (c.take.ensures.away rest (text_of m) take.pages) j lt
