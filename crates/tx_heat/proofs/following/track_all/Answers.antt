-- What is kept of one CPU more is that behind the event.
use Rattle.std.proofs.Common.{◌≡◌, ◌≢◌, ◌<◌, ◌≤◌, ◌∙◌, Some, sym, ap, subst, length, arith}
use Rattle.std.specs.Prelude.{slice_get}
use Rattle.std.proofs.lemmas.List.{length-set}
use Rattle.std.proofs.lemmas.Option.{slice_get_within}
use Rattle.tx_journal.specs.Content.{Content}
use Rattle.tx_schedule.specs.Machine.{setting_of, state_of}
use Rattle.tx_heat.specs.Watched.{IsTrack}
use Rattle.tx_heat.proofs.Tracks.{still_ahead, old_at, here_or_before, no_one_beyond}
use Rattle.tx_heat.proofs.following.track_all.Goals as goal

pub loop-cpu-preserved : goal.loop-cpu-preserved
loop-cpu-preserved c =
    let machine = c.args.machine.now in
    let k = c.loop-cpu.cpu in
    let tracks = c.loop-cpu.tracks in
    let start = c.args.tracks.now in
    let old = c.index-tracks-cpu.result in
    let new = c.track_one.new.track in
    let inv = c.loop-cpu.invariant in
    let count : length c.image.result.now.cpus ≡ length machine.image.cpus =
    ap (λ (i : Content). length i.cpus) c.image.ensures in
    let lt : k < length tracks = omega arith in
    let is = sym c.index-tracks-cpu.is in
    let at = old_at tracks start k old new lt is inv.ahead in record {
      size = length-set tracks k new ∙ inv.size;
      behind = λ s asked told speaks passes before.
          here_or_before tracks start k old new lt is inv.ahead
          (IsTrack (setting_of machine) (state_of machine))
          (λ j t low e. inv.behind s asked told speaks passes before j t low e)
          (c.track_one.ensures s asked
          (λ own. subst (λ x. x.asked ≡ asked) c.index-tracks-cpu.is
          (told old (subst (λ i. slice_get start i ≡ Some old) own at)))
          speaks (passes k)
          (subst (IsTrack (setting_of machine) s k) c.index-tracks-cpu.is (before.each k old at)));
      ahead = λ j le. still_ahead tracks start k old new lt is inv.ahead j le;
    }

pub returns : goal.returns
returns c = λ s asked told speaks passes before.
    let machine = c.args.machine.now in
    let tracks = c.loop-cpu.tracks in
    let inv = c.loop-cpu.invariant in
    let count : length c.image.result.now.cpus ≡ length machine.image.cpus =
    ap (λ (i : Content). length i.cpus) c.image.ensures in record {
      each = λ j marks e.
          let inside = slice_get_within tracks j marks e in
          inv.behind s asked told speaks passes before j marks (omega (arith, inside, inv.size)) e;
      beyond = λ j le.
          let past : length c.args.tracks.now ≤ j = omega (arith, le, inv.size) in
          let ne : j ≢ c.args.asker = omega (arith, past, c.requires.asker, c.requires.known) in
          no_one_beyond (setting_of machine) s (state_of machine) c.args.asker j asked ne
          (passes j) (before.beyond j past);
    }
