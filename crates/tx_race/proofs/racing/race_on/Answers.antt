-- The machine that is closed is the one that was finished, of the image and the limits that were kept.
use Rattle.std.proofs.Common.{rules, ◌≡◌, true, ap, sym, ◌∙◌}
use Rattle.std.proofs.lemmas.Result.{IfOk-weaker}
use Rattle.tx_board.specs.Machine.{setting_of}
use Rattle.tx_race.proofs.Settings.{same_setting}
use Rattle.tx_race.proofs.racing.race_on.Goals as goal

pub returns-clause-none : goal.returns-clause-none
returns-clause-none g c = rw c.close.ensures.machine c.finish_round.ensures.none

pub returns-clause-same : goal.returns-clause-same
returns-clause-same g c =
    let yes : c.is_of_run.result ≡ true = search (rules, c.if-not-is_of_run.false) in
    ap setting_of c.close.ensures.machine ∙ c.finish_round.ensures.same ∙ sym (ap setting_of c.machine-2.ensures)
    ∙ c.is_of_run.ensures yes
    ∙ same_setting _ _ _ _ (c.deref-2.ensures ∙ c.in_ok-image.ensures) c.limits-limits.ensures

pub returns-then-not-is_of_run-clause-same : goal.returns-then-not-is_of_run-clause-same
returns-then-not-is_of_run-clause-same g c =
    IfOk-weaker c.run_again.result _ _
    (λ r h. h ∙ same_setting _ _ _ _ c.in_ok-image.ensures c.limits-limits.ensures) c.run_again.ensures.same
