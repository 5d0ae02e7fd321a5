-- From the beginning to the end.
use Rattle.std.proofs.Common.{◌∙◌, ap}
use Rattle.tx_meaning.specs.Schedules.{Round, round, most_turns}
use Rattle.tx_meaning.proofs.Schedules.{round_complete}
use Rattle.tx_machine.specs.Machine.{Seen, setting_of}
use Rattle.tx_schedule.proofs.Runs.{has_run, none_ready}
use Rattle.tx_schedule.proofs.running.run_round_on.Goals as goal

pub returns-clause-run : goal.returns-clause-run
returns-clause-run g c =
    let before = g.R.Runnable.seen c.args.runner.now in
    has_run before (g.R.Runnable.seen c.run_by.new.runner) (most_turns (setting_of before))
    c.turns_of-most.result (Round 0) c.requires
    (c.turns_of-most.ensures ∙ ap (λ (m : Seen). most_turns (setting_of m)) c.machine.ensures)
    c.run_by.ensures.setting c.run_by.ensures.state

pub returns-clause-complete : goal.returns-clause-complete
returns-clause-complete g c =
    let before = g.R.Runnable.seen c.args.runner.now in
    let m = setting_of before in
    none_ready before (g.R.Runnable.seen c.run_by.new.runner) (round m) (returns-clause-run g c)
    (round_complete m)
