-- By its plan it goes, ends its transaction, or stops the program.
use Rattle.std.proofs.Common.{◌≡◌, sym, ap, ◌∙◌}
use Rattle.tx_serial.specs.Fate.{Fate}
use Rattle.tx_lines.specs.Plans.{fate_of}
use Rattle.tx_lines.specs.Plan.{Plan}
use Rattle.tx_meaning.specs.Limits.{Setting}
use Rattle.tx_keeping.specs.Kept.{text_of}
use Rattle.tx_keeping.specs.Turn.{k_attempting, k_ends_by}
use Rattle.tx_works.specs.Ready.{image_storage}
use Rattle.tx_works.specs.Works.{kept_by}
use Rattle.tx_works.proofs.Seats.{no_seat}
use Rattle.tx_works.proofs.Own.{fate-own}
use Rattle.tx_works.proofs.Climbing.{may-end-own}
use Rattle.tx_works.proofs.Lined.{no_limits, room-now}
use Rattle.tx_works.proofs.works.Works.attempt_planned.Goals as goal

-- a plan that is known says what its fate is
planned : {p q : Plan} {f : Fate} → fate_of p ≡ f → p ≡ q → fate_of q ≡ f
planned told is = sym (ap fate_of is) ∙ told

pub go-requires-clause-prepared : goal.go-requires-clause-prepared
go-requires-clause-prepared c rest =
    let m : Setting = record { image = c.args.program.now; limits = no_limits } in
    record {
      text = text_of m;
      storage = image_storage m;
      goes = sym (planned (c.plan-plan.ensures.value rest no_limits) c.in-Go.is);
    }

pub go-requires-clause-reach : goal.go-requires-clause-reach
go-requires-clause-reach c rest =
    (c.requires.turns rest no_limits).reach c.in-Go.instr c.in-Go.need
    (sym (c.requires.turns rest no_limits).text ∙ sym (planned (c.plan-plan.ensures.value rest no_limits) c.in-Go.is))

pub go-requires-clause-holds : goal.go-requires-clause-holds
go-requires-clause-holds c rest =
    (c.requires.turns rest no_limits).goes c.in-Go.instr c.in-Go.need
    (sym (c.requires.turns rest no_limits).text ∙ sym (planned (c.plan-plan.ensures.value rest no_limits) c.in-Go.is))

pub end_by-requires-clause-live : goal.end_by-requires-clause-live
end_by-requires-clause-live c rest =
    (c.requires.turns rest no_limits).ends c.in-Ends.why
    (sym (c.requires.turns rest no_limits).text ∙ sym (planned (c.plan-plan.ensures.value rest no_limits) c.in-Ends.is))

pub end_by-requires-clause-climbs : goal.end_by-requires-clause-climbs
end_by-requires-clause-climbs c rest =
    let k = kept_by rest c.args.self.now in
    let m : Setting = record { image = c.args.program.now; limits = no_limits } in
    may-end-own c.in-Ends.why k c.args.cpu
    (fate-own (text_of m) (image_storage m) (k.locals c.args.cpu).attempt c.in-Ends.why
    (sym (planned (c.plan-plan.ensures.value rest no_limits) c.in-Ends.is)))

pub end_by-requires-clause-room : goal.end_by-requires-clause-room
end_by-requires-clause-room c = room-now c.args.self.now (c.requires.acts no_seat).room

pub stop-requires-clause-live : goal.stop-requires-clause-live
stop-requires-clause-live c rest =
    (c.requires.turns rest no_limits).stops c.in-Stops.e
    (sym (c.requires.turns rest no_limits).text ∙ sym (planned (c.plan-plan.ensures.value rest no_limits) c.in-Stops.is))

pub stop-requires-clause-room : goal.stop-requires-clause-room
stop-requires-clause-room c = room-now c.args.self.now (c.requires.acts no_seat).room

pub go-requires-clause-rested : goal.go-requires-clause-rested
go-requires-clause-rested c rest = (c.requires.turns rest no_limits).rested

pub returns-in-Go-clause-value : goal.returns-in-Go-clause-value
returns-in-Go-clause-value c rest limits =
    let m : Setting = record { image = c.args.program.now; limits = limits } in
    let k = kept_by rest c.args.self.now in
    c.go.ensures.value rest m c.requires.cpus
    ∙ ap (k_attempting m c.args.cpu k)
    (planned (c.plan-plan.ensures.value rest limits) c.in-Go.is ∙ (c.requires.turns rest limits).text)

pub returns-in-Ends-clause-value : goal.returns-in-Ends-clause-value
returns-in-Ends-clause-value c rest limits =
    let m : Setting = record { image = c.args.program.now; limits = limits } in
    let k = kept_by rest c.args.self.now in
    c.end_by.ensures.value rest
    ∙ ap (λ at. k_ends_by c.args.cpu c.in-Ends.why at k) (c.next_address-at.ensures rest)
    ∙ ap (k_attempting m c.args.cpu k)
    (planned (c.plan-plan.ensures.value rest limits) c.in-Ends.is ∙ (c.requires.turns rest limits).text)

pub returns-in-Stops-clause-value : goal.returns-in-Stops-clause-value
returns-in-Stops-clause-value c rest limits =
    let m : Setting = record { image = c.args.program.now; limits = limits } in
    let k = kept_by rest c.args.self.now in
    c.stop.ensures.value rest
    ∙ ap (k_attempting m c.args.cpu k)
    (planned (c.plan-plan.ensures.value rest limits) c.in-Stops.is ∙ (c.requires.turns rest limits).text)
