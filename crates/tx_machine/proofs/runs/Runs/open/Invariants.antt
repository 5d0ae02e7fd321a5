-- A run of each CPU so far, at its place.
use Rattle.std.proofs.Common.{◌≡◌, length, map, replicate, false}
use Rattle.tx_machine.specs.Runs.{AreOwn, is_away}
use Rattle.tx_machine.proofs.runs.Runs.open.Given as goal

abbrev pub invariant-loop-cpu : goal.invariant-loop-cpu
invariant-loop-cpu l = record {
  many : length l.places.items ≡ l.cpu;
  home : map is_away l.places.items ≡ replicate l.cpu false;
  own : AreOwn l.places.items;
}
