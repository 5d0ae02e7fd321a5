-- A job for each share so far.
use Rattle.std.proofs.Common.{◌≡◌, length, vec_len}
use Rattle.tx_race.proofs.workers.jobs_of.Given as goal

abbrev pub invariant-loop-share : goal.invariant-loop-share
invariant-loop-share g l = (l.cpu ≡ length l.yielded) × (vec_len l.jobs ≡ length l.yielded)
