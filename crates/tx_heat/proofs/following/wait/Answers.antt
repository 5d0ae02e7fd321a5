-- Nothing is asked for, and no attempt completes more.
use Rattle.tx_schedule.specs.Machine.{setting_of, state_of}
use Rattle.tx_heat.proofs.Followed.{waiting_tracks}
use Rattle.tx_heat.proofs.Waiting.{no_conflict}
use Rattle.tx_heat.proofs.following.wait.Goals as goal

pub returns-clause-tracks : goal.returns-clause-tracks
returns-clause-tracks c =
    let old = c.args.machine.now in
    waiting_tracks (setting_of old) (state_of old) (state_of c.event-outcome.new.self) c.args.e c.args.tracks.now
    c.event-outcome.ensures.state c.requires.setting c.requires.reached c.requires.known c.requires.over
    c.requires.waits c.requires.tracks

pub returns-clause-none : goal.returns-clause-none
returns-clause-none c = no_conflict (setting_of c.args.machine.now) c.args.e (state_of c.args.machine.now) c.requires.waits
