use Rattle.std.proofs.Common.{◌≡◌, take, true}
use Rattle.report_text.proofs.Finished.{all_finished}
use Rattle.report_text.proofs.whole.status.Given as goal

abbrev pub invariant-loop-cpu : goal.invariant-loop-cpu
invariant-loop-cpu l = all_finished (take l.cpu-index l.cpus) ≡ true
