-- A CPU that rests has no live attempt; else it is found out what it asks for.
use Rattle.std.proofs.Common.{◌≡◌, ◌<◌, Some, false, sym, ap, ◌∙◌, subst, arith, length}
use Rattle.std.specs.Prelude.{nat_lt, slice_get}
use Rattle.tx_meaning.specs.State.{is_live}
use Rattle.tx_schedule.specs.Machine.{setting_of, state_of}
use Rattle.tx_heat.specs.Watched.{Tracked, SpeaksFor}
use Rattle.tx_heat.proofs.Passing.{kept_at}
use Rattle.tx_heat.proofs.following.follow.Goals as goal

pub wait-requires-clause-over : goal.wait-requires-clause-over
wait-requires-clause-over c =
    let s = state_of c.args.machine.now in
    let tracks = c.args.tracks.now in
    let k = c.cpu_of-cpu.result in
    let own = c.cpu_of-cpu.ensures in
    let old : Tracked = c.index-tracks-cpu.result in
    let is = c.index-tracks-cpu.is in
    let lt : k < length tracks = omega (arith, own, c.requires.known, c.requires.cpus) in
    let track = c.requires.tracks.each k old (kept_at tracks k old lt (sym is)) in
    let over = c.rests.ensures.over c.if-rests.true in
    subst (λ i. is_live s i ≡ false) own
    (ap (nat_lt 0) (sym track.completed ∙ ap (λ (x : Tracked). x.completed) is ∙ over))

pub act-requires-clause-speaks : goal.act-requires-clause-speaks
act-requires-clause-speaks c =
    let m = setting_of c.args.machine.now in
    let s = state_of c.args.machine.now in
    subst (λ i. (t : Tracked) → slice_get c.hear.new.tracks i ≡ Some t → SpeaksFor m s i t.asked)
    c.cpu_of-cpu.ensures c.hear.ensures.speaks
