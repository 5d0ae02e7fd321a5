use Rattle.std.proofs.Common.{◌<◌, ◌∙◌, length, sym, subst, inr}
use Rattle.std.specs.Prelude.{All}
use Rattle.tx_journal.specs.Image.{cpu_of_event}
use Rattle.run_answers.proofs.RaceReports.{raced_due}
use Rattle.run_answers.proofs.Ran.{is_status}
use Rattle.run_answers.proofs.raced.report_race.Goals as goal

pub returns-clause-due : goal.returns-clause-due
returns-clause-due c = λ turns tick input limits raced.
    let machine = c.args.machine.now in
    let events = c.events-recorded.ensures in
    let known = subst (λ es. All (λ e. cpu_of_event e < length machine.image.cpus) es) events.recorded events.known in
    inr (raced_due turns tick input machine c.status.result c.in_ok-text.text.items limits raced
    (sym events.recorded ∙ events.meant) known c.status.ensures c.in_ok-text.ensures)

pub returns-clause-statuses : goal.returns-clause-statuses
returns-clause-statuses c = is_status c.status.result _ _ c.status.ensures
