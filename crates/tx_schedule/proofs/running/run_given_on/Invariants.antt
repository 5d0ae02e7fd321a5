-- The events so far have happened.
use Rattle.tx_machine.specs.Machine.{setting_of}
use Rattle.tx_schedule.proofs.Runs.{Follows}
use Rattle.tx_schedule.proofs.running.run_given_on.Given as goal

abbrev pub invariant-loop-place : goal.invariant-loop-place
invariant-loop-place g l =
    let seen = g.R.Runnable.seen in
    Follows (setting_of (seen l.fn.runner)) (seen l.fn.runner).image.schedule l.place (seen l.runner)
