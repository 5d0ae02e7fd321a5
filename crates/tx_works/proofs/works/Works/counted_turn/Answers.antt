-- A tick, a wait, or an act.
use Rattle.std.proofs.Common.{◌<◌, ◌≤◌, sym, ap, ◌∙◌, arith}
use Rattle.tx_works.proofs.Seats.{no_seat}
use Rattle.tx_meaning.specs.Turn.{is_tick}
use Rattle.tx_meaning.specs.Limits.{Setting}
use Rattle.tx_works.specs.Turned.{turned_as}
use Rattle.tx_works.specs.Works.{kept_by}
use Rattle.tx_works.proofs.Lined.{room-now, ticked-is, waited-is, acted-is}
use Rattle.tx_works.proofs.works.Works.counted_turn.Goals as goal

pub tick-requires-clause-room : goal.tick-requires-clause-room
tick-requires-clause-room c = room-now c.args.self.now (c.requires.acts no_seat).room

pub returns-then-is_tick-clause-value : goal.returns-then-is_tick-clause-value
returns-then-is_tick-clause-value c rest =
    let m : Setting = record { image = c.args.program.now; limits = c.args.limits } in
    let k = kept_by rest c.args.self.now in
    ticked-is m k c.args.cpu (turned_as (kept_by rest c.tick.new.self) c.tick.new.turned)
    (sym (ap (is_tick c.args.limits) (c.turns-turns.ensures rest)) ∙ sym c.is_tick.ensures ∙
    c.if-is_tick.true)
    (c.tick.ensures.value rest)

pub returns-then-delay_of-gt0-clause-value : goal.returns-then-delay_of-gt0-clause-value
returns-then-delay_of-gt0-clause-value c rest =
    let m : Setting = record { image = c.args.program.now; limits = c.args.limits } in
    let k = kept_by rest c.args.self.now in
    let mine = c.delay_of.ensures rest in
    let waits : 0 < (k.state.numbers c.args.cpu).delay = omega (arith, c.if-delay_of-gt0.true) in
    waited-is m k c.args.cpu (turned_as (kept_by rest c.wait.new.self) c.without_reject.result)
    (sym (ap (is_tick c.args.limits) (c.turns-turns.ensures rest)) ∙ sym c.is_tick.ensures ∙
    c.if-is_tick.false) waits
    (λ x. turned_as (c.wait.ensures.value rest x) (c.without_reject.ensures x))

pub returns-clause-value : goal.returns-clause-value
returns-clause-value c rest =
    let m : Setting = record { image = c.args.program.now; limits = c.args.limits } in
    let k = kept_by rest c.args.self.now in
    let mine = c.delay_of.ensures rest in
    let rests : (k.state.numbers c.args.cpu).delay ≤ 0 = omega (arith, c.if-delay_of-gt0.false) in
    acted-is m k c.args.cpu (turned_as (kept_by rest c.act.new.self) c.act.new.turned)
    (sym (ap (is_tick c.args.limits) (c.turns-turns.ensures rest)) ∙ sym c.is_tick.ensures ∙
    c.if-is_tick.false) rests
    (c.act.ensures.value rest c.args.limits)
