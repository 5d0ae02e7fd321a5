use Rattle.std.proofs.Common.{◌≡◌, ◌≤◌, ◌*◌, ◌^◌, take, sum}
use Rattle.report_text.proofs.totals.sum_of.Given as goal

abbrev pub invariant-loop-counter : goal.invariant-loop-counter
invariant-loop-counter l = record {
  so_far : l.total ≡ sum (take l.counter-index l.counters);
  small : l.total ≤ l.counter-index * 2 ^ 64;
}
