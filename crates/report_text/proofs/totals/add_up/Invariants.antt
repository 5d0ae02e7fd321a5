use Rattle.std.proofs.Common.{◌≡◌, ◌≤◌, ◌*◌, ◌^◌, take, map, sum_by}
use Rattle.report_text.specs.Shown.{ShownCpu, shown_cpu}
use Rattle.report_text.proofs.totals.add_up.Given as goal

abbrev pub invariant-loop-cpu : goal.invariant-loop-cpu
invariant-loop-cpu l = record {
  turns : l.turns ≡ sum_by (λ (c : ShownCpu). c.counts.turns) (map shown_cpu (take l.cpu-index l.cpus));
  commits : l.commits ≡ sum_by (λ (c : ShownCpu). c.counts.commits) (map shown_cpu (take l.cpu-index l.cpus));
  aborts : l.aborts ≡ sum_by (λ (c : ShownCpu). c.counts.aborts) (map shown_cpu (take l.cpu-index l.cpus));
  few_turns : l.turns ≤ l.cpu-index * 2 ^ 32;
  few_commits : l.commits ≤ l.cpu-index * 2 ^ 32;
  few_aborts : l.aborts ≤ l.cpu-index * 2 ^ 32;
}
