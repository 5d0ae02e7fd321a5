-- Its line is there, or it is asked for.
use Rattle.std.proofs.Common.{sym, ap, ◌∙◌}
use Rattle.std.specs.FinSet.{items}
use Rattle.tx_program.specs.Shapes.{touched_by}
use Rattle.tx_meaning.specs.Limits.{Setting}
use Rattle.tx_keeping.specs.Kept.{text_of}
use Rattle.tx_keeping.specs.Turn.{k_attempting, k_executing}
use Rattle.tx_works.specs.Ready.{image_storage}
use Rattle.tx_works.specs.Works.{kept_by}
use Rattle.tx_works.proofs.Seats.{no_seat}
use Rattle.tx_works.proofs.Lined.{no_limits, room-now}
use Rattle.tx_program.proofs.Placed.{reached-placed}
use Rattle.tx_works.proofs.works.Works.go_plainly.Goals as goal

pub perform_plainly-requires-clause-prepared : goal.perform_plainly-requires-clause-prepared
perform_plainly-requires-clause-prepared c rest =
    let m : Setting = record { image = c.args.program.now; limits = no_limits } in
    record { text = text_of m; storage = image_storage m; goes = c.requires.goes rest no_limits }

pub perform_plainly-requires-clause-rested : goal.perform_plainly-requires-clause-rested
perform_plainly-requires-clause-rested c rest = (c.requires.turns rest no_limits).rested

pub perform_plainly-requires-clause-bare : goal.perform_plainly-requires-clause-bare
perform_plainly-requires-clause-bare c rest = (c.requires.quiet rest).prefix

pub perform_plainly-requires-clause-placed : goal.perform_plainly-requires-clause-placed
perform_plainly-requires-clause-placed c =
    reached-placed c.args.plain.now.ready.now.shape c.args.plain.now.first (items c.args.program.now.guard)
    c.requires.reached

pub perform_plainly-requires-clause-room : goal.perform_plainly-requires-clause-room
perform_plainly-requires-clause-room c = room-now c.args.self.now (c.requires.acts no_seat).room

pub go_asking-requires-clause-prepared : goal.go_asking-requires-clause-prepared
go_asking-requires-clause-prepared c rest =
    let m : Setting = record { image = c.args.program.now; limits = no_limits } in
    record { text = text_of m; storage = image_storage m; goes = c.requires.goes rest no_limits }

pub go_asking-requires-clause-bare : goal.go_asking-requires-clause-bare
go_asking-requires-clause-bare c rest = (c.requires.quiet rest).prefix

pub go_asking-requires-clause-placed : goal.go_asking-requires-clause-placed
go_asking-requires-clause-placed c =
    reached-placed c.args.plain.now.ready.now.shape c.args.plain.now.first (items c.args.program.now.guard)
    c.requires.reached

pub go_asking-requires-clause-holds : goal.go_asking-requires-clause-holds
go_asking-requires-clause-holds c rest =
    let ready = c.args.plain.now.ready.now in
    (c.requires.turns rest no_limits).goes ready.instr
    (touched_by ready.shape.touch c.args.plain.now.first ready.shape.size)
    (sym (c.requires.turns rest no_limits).text ∙ c.requires.goes rest no_limits)

pub go_asking-requires-clause-rested : goal.go_asking-requires-clause-rested
go_asking-requires-clause-rested c rest = (c.requires.turns rest no_limits).rested

pub returns-then-holds_operand-clause-value : goal.returns-then-holds_operand-clause-value
returns-then-holds_operand-clause-value c rest limits =
    let m : Setting = record { image = c.args.program.now; limits = limits } in
    let k = kept_by rest c.args.self.now in
    let i = c.args.cpu in
    let ready = c.args.plain.now.ready.now in
    let need = touched_by ready.shape.touch c.args.plain.now.first ready.shape.size in
    let there = c.holds_operand.ensures rest (items c.args.program.now.guard) (c.requires.quiet rest).prefix
    c.requires.reached c.if-holds_operand.true in
    c.perform_plainly.ensures.value rest
    ∙ there.goes_on m (k_executing i ready.instr need)
    ∙ ap (k_attempting m i k) (sym (c.requires.goes rest limits) ∙ (c.requires.turns rest limits).text)

pub returns-clause-value : goal.returns-clause-value
returns-clause-value c rest limits =
    let m : Setting = record { image = c.args.program.now; limits = limits } in
    let k = kept_by rest c.args.self.now in
    c.go_asking.ensures.value rest m c.requires.cpus
    ∙ ap (k_attempting m c.args.cpu k) (sym (c.requires.goes rest limits) ∙ (c.requires.turns rest limits).text)
