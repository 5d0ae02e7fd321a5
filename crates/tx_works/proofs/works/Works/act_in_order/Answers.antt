-- The block, the interruption, or the next instruction.
use Rattle.std.proofs.Common.{sym, ◌∙◌}
use Rattle.std.proofs.Common.{subst, List}
use Rattle.z_regs.specs.declared.ranges.Range.{Range}
use Rattle.tx_meaning.specs.Needs.{operand_needs}
use Rattle.tx_works.specs.Ready.{MayHold}
use Rattle.tx_meaning.specs.Limits.{Setting}
use Rattle.tx_works.specs.Turned.{turned_as}
use Rattle.tx_works.specs.Works.{kept_by}
use Rattle.tx_works.proofs.Seats.{no_seat}
use Rattle.tx_works.proofs.Lined.{no_limits, block-inside, block-holds, acting-block, acting-taken, awaited, same-ranges}
use Rattle.tx_works.proofs.works.Works.act_in_order.Goals as goal

pub store_pending-requires-clause-inside : goal.store_pending-requires-clause-inside
store_pending-requires-clause-inside c =
    let k = kept_by no_seat c.args.self.now in
    block-inside (k.locals c.args.cpu).pending c.in-Some.address (c.requires.turns no_seat no_limits).inside
    ((c.in-Some.ensures) no_seat)

pub store_pending-requires-clause-holds : goal.store_pending-requires-clause-holds
store_pending-requires-clause-holds c rest =
    let k = kept_by rest c.args.self.now in
    block-holds c.args.cpu k (k.locals c.args.cpu).attempt.cpu.prefix (k.locals c.args.cpu).pending
    c.in-Some.address (c.requires.turns rest no_limits).stores ((c.in-Some.ensures) rest)

pub returns-in-Some-clause-value : goal.returns-in-Some-clause-value
returns-in-Some-clause-value c rest limits =
    let m : Setting = record { image = c.args.program.now; limits = limits } in
    let k = kept_by rest c.args.self.now in
    acting-block m c.args.cpu k (k.locals c.args.cpu).pending (k.locals c.args.cpu).waiting c.in-Some.address
    (turned_as (kept_by rest c.store_pending.new.self) c.store_pending.new.turned) ((c.in-Some.ensures) rest)
    (c.store_pending.ensures.value rest m c.requires.cpus)

pub take_waiting-requires-clause-rests : goal.take_waiting-requires-clause-rests
take_waiting-requires-clause-rests c rest =
    let k = kept_by rest c.args.self.now in
    let w = awaited (k.locals c.args.cpu).waiting c.in-Some-awaited.block ((c.in-Some-awaited.ensures) rest) in
    (c.requires.turns rest no_limits).rests w.interruption w.waits

pub take_waiting-requires-clause-holds : goal.take_waiting-requires-clause-holds
take_waiting-requires-clause-holds c rest bytes is =
    let k = kept_by rest c.args.self.now in
    let w = awaited (k.locals c.args.cpu).waiting c.in-Some-awaited.block ((c.in-Some-awaited.ensures) rest) in
    subst (λ (rs : List Range). MayHold c.args.cpu (operand_needs (k.locals c.args.cpu).attempt.cpu.prefix
    rs) k)
    (same-ranges w.interruption.block bytes (w.same ∙ sym is))
    ((c.requires.turns rest no_limits).takes w.interruption w.waits)

pub returns-in-Some-awaited-clause-value : goal.returns-in-Some-awaited-clause-value
returns-in-Some-awaited-clause-value c rest limits =
    let m : Setting = record { image = c.args.program.now; limits = limits } in
    let k = kept_by rest c.args.self.now in
    acting-taken m c.args.cpu k (k.locals c.args.cpu).pending (k.locals c.args.cpu).waiting c.in-Some-awaited.block
    (turned_as (kept_by rest c.take_waiting.new.self) c.take_waiting.new.turned)
    ((c.in_default.ensures) rest) ((c.in-Some-awaited.ensures) rest)
    (λ bytes is. c.take_waiting.ensures.value rest m bytes is c.requires.cpus)
