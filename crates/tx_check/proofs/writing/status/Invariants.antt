use Rattle.std.proofs.Common.{◌≡◌, take, true}
use Rattle.tx_check.proofs.Written.{all_finished}
use Rattle.tx_check.proofs.writing.status.Given as goal

abbrev pub invariant-loop-cpu : goal.invariant-loop-cpu
invariant-loop-cpu l = all_finished (take l.cpu-index l.cpus) ≡ true
