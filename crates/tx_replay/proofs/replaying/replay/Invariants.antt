use Rattle.std.proofs.Common.{◌≡◌, length, take}
use Rattle.report_form.specs.Text.{lines_of, IsPlace}
use Rattle.tx_flat.specs.Machine.{state_of}
use Rattle.tx_replay.specs.Replay.{IsReplayed}
use Rattle.tx_replay.proofs.replaying.replay.Given as goal

abbrev pub invariant-loop-k : goal.invariant-loop-k
invariant-loop-k l = record {
  at : l.place.line ≡ l.k;
  place : IsPlace l.text l.place;
  replayed : IsReplayed l.image (take l.k (take l.count (lines_of l.text))) (state_of l.flat) l.ends;
  cpus : length l.flat.slots ≡ length l.image.cpus;
}
