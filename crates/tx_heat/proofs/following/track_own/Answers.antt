-- The attempt has completed as much, or is begun.
use Rattle.std.proofs.Common.{sym, ◌∙◌}
use Rattle.tx_schedule.specs.Machine.{setting_of, state_of}
use Rattle.tx_heat.proofs.Passing.{stay_track, begin_track}
use Rattle.tx_heat.proofs.following.track_own.Goals as goal

pub returns-then-now-completed : goal.returns-then-now-completed
returns-then-now-completed c = λ s speaks passes track.
    let m = setting_of c.args.machine.now in
    let t = state_of c.args.machine.now in
    let k = c.args.cpu in
    let old = c.args.track.now in
    stay_track m s t k k old.asked passes old track
    (sym c.completed-now.ensures ∙ c.if-now-completed.true ∙ c.completed.ensures ∙ track.completed) c.stay.new.self
    c.stay.ensures speaks

pub returns-then-completed-eq0 : goal.returns-then-completed-eq0
returns-then-completed-eq0 c = λ s speaks passes track.
    let m = setting_of c.args.machine.now in
    let t = state_of c.args.machine.now in
    let k = c.args.cpu in
    let old = c.args.track.now in
    begin_track m s t k k old.asked passes old track c.begin.new.self c.completed-now.result c.begin.ensures
    c.completed-now.ensures (sym c.completed-else-now-eq0.ensures ∙ c.if-completed-eq0.true)
