-- So many events have happened.
use Rattle.tx_watch.specs.Replay.{Replays}
use Rattle.tx_watch.proofs.watching.skip.Given as goal

abbrev pub invariant-loop-place : goal.invariant-loop-place
invariant-loop-place l = Replays l.machine l.place l.replay
