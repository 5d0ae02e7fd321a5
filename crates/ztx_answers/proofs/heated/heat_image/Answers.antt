-- The run of the machine whose conflicts are counted is the one that is due.
use Rattle.std.proofs.Common.{◌≡◌, ◌∙◌, sym, ap, subst}
use Rattle.run_answers.specs.Machine.{Seen, setting_of}
use Rattle.tx_meaning.specs.Schedules.{planned}
use Rattle.run_answers.specs.Report.{status_of}
use Rattle.run_answers.specs.Ran.{HasRun}
use Rattle.ztx_answers.proofs.Heats.{heat_due}
use Rattle.run_answers.proofs.Ran.{is_status}
use Rattle.ztx_answers.proofs.heated.heat_image.Goals as goal

pub returns-clause-due : goal.returns-clause-due
returns-clause-due c = λ input stands.
    let machine = c.in_ok-machine.machine in
    let after = c.run_planned_on.new.runner in
    let ran = subst (λ (b : Seen). HasRun b after (planned (setting_of b) c.args.seed)) c.in_ok-counting.ensures
    c.run_planned_on.ensures in
    heat_due c.args.image c.args.turns c.args.tick c.args.seed machine after c.heat.result input c.status-status.result
    c.in_ok-text.text.items c.in_ok-machine.ensures ran c.heat.ensures
    (c.status-status.ensures ∙ ap (λ (s : Seen). status_of (setting_of s) s.events) c.machine.ensures)
    c.in_ok-text.ensures stands

pub returns-clause-statuses : goal.returns-clause-statuses
returns-clause-statuses c = is_status c.status-status.result _ _ c.status-status.ensures
