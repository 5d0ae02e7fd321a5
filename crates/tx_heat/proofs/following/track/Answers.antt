-- Where an attempt was aborted, of all CPUs; else of the event's CPU.
use Rattle.std.proofs.Common.{◌≡◌, ◌<◌, ◌∙◌, sym, subst, arith, length, List, true}
use Rattle.z_regs.specs.declared.ranges.Range.{Range}
use Rattle.tx_meaning.specs.State.{is_live}
use Rattle.tx_schedule.specs.Machine.{setting_of, state_of}
use Rattle.tx_schedule.specs.Wanted.{wanted}
use Rattle.tx_heat.specs.Watched.{Tracked, IsTrack, Passes}
use Rattle.tx_heat.proofs.Passing.{kept_at, own_track}
use Rattle.tx_heat.proofs.following.track.Goals as goal

pub returns-then-has_abort : goal.returns-then-has_abort
returns-then-has_abort c = λ s asked told speaks passes quiet all.
    c.track_all.ensures s asked told speaks passes all

pub returns : goal.returns
returns c = λ s asked told speaks passes quiet all.
    let m = setting_of c.args.machine.now in
    let t = state_of c.args.machine.now in
    let tracks = c.args.tracks.now in
    let k = c.args.asker in
    let old : Tracked = c.index-tracks-asker.result in
    let lt : k < length tracks = omega arith in
    let at = kept_at tracks k old lt (sym c.index-tracks-asker.is) in
    let is = c.index-tracks-asker.is in
    own_track m s tracks k c.track_own.new.track lt t asked passes
    (quiet (c.has_abort.ensures c.if-has_abort.false)) all
    (c.track_own.ensures s
    (subst (λ (x : Tracked). (is_live s k ≡ true → x.asked ≡ wanted m s k)) is (λ live. told old at ∙ speaks live))
    (subst (λ (x : Tracked). Passes m s t k x.asked k) is
    (subst (λ (x : List Range). Passes m s t k x k) (sym (told old at)) (passes k)))
    (subst (IsTrack m s k) is (all.each k old at)))
