-- It is known what the CPU asks for, nobody needs it, or it is found out.
use Rattle.std.proofs.Common.{◌≡◌, ◌<◌, Some, true, sym, ap, ◌∙◌, subst, arith, length}
use Rattle.std.proofs.lemmas.Option.{get_or_from_slice_get}
use Rattle.tx_schedule.specs.Machine.{setting_of, state_of}
use Rattle.tx_heat.specs.Watched.{Tracked, IsTrack}
use Rattle.z_regs.proofs.Elements.{put_is_there}
use Rattle.tx_heat.proofs.Passing.{kept_at, put_track, asked_track, all_rest, speaks_itself, speaks_for_nobody}
use Rattle.tx_heat.proofs.following.hear.Goals as goal

pub returns-then-is_known-clause-speaks : goal.returns-then-is_known-clause-speaks
returns-then-is_known-clause-speaks c = λ t at.
    let tracks = c.args.tracks.now in
    let k = c.args.cpu in
    let there = get_or_from_slice_get tracks k t c.index-tracks-cpu.result at in
    let known : t.known ≡ true =
    ap (λ (x : Tracked). x.known) (sym there) ∙ sym c.is_known.ensures ∙ c.if-is_known.true in
    speaks_itself (setting_of c.args.machine.now) (state_of c.args.machine.now) k t.asked
    ((c.requires.tracks.each k t at).asked known)

pub returns-then-are_none_live-clause-speaks : goal.returns-then-are_none_live-clause-speaks
returns-then-are_none_live-clause-speaks c = λ t at.
    let m = setting_of c.args.machine.now in
    let s = state_of c.args.machine.now in
    speaks_for_nobody m s c.args.cpu t.asked
    (all_rest m s c.args.tracks.now c.requires.tracks (c.are_none_live.ensures c.if-are_none_live.true))

pub returns-clause-tracks : goal.returns-clause-tracks
returns-clause-tracks c =
    let m = setting_of c.args.machine.now in
    let s = state_of c.args.machine.now in
    let tracks = c.args.tracks.now in
    let k = c.args.cpu in
    let old : Tracked = c.index-tracks-cpu-2.result in
    let is = c.index-tracks-cpu-2.is in
    let lt : k < length tracks = omega arith in
    put_track m s tracks k c.ask.new.self lt c.requires.tracks
    (asked_track m s k _ c.ask.new.self c.ask.ensures
    (subst (IsTrack m s k) is (c.requires.tracks.each k old (kept_at tracks k old lt (sym is)))))

pub returns-clause-speaks : goal.returns-clause-speaks
returns-clause-speaks c = λ t at.
    let tracks = c.args.tracks.now in
    let k = c.args.cpu in
    let new : Tracked = c.ask.new.self in
    let lt : k < length tracks = omega arith in
    let there : Some new ≡ Some t = sym (put_is_there tracks k new lt) ∙ at in
    let same : new ≡ t = cc in
    speaks_itself (setting_of c.args.machine.now) (state_of c.args.machine.now) k t.asked
    (ap (λ (x : Tracked). x.asked) (sym same ∙ c.ask.ensures))
