-- Nothing has happened to it.
use Rattle.std.proofs.Common.{◌∙◌, ap₂}
use Rattle.std.proofs.lemmas.Result.{IfOk-weaker}
use Rattle.tx_step.specs.Machine.{Seen, opened}
use Rattle.tx_watch.specs.Replay.{Replays}
use Rattle.tx_watch.proofs.Replaying.{replays_first}
use Rattle.tx_watch.proofs.watching.begun_again.Goals as goal

pub returns : goal.returns
returns c =
    IfOk-weaker c.open.result _ (λ (replay : Seen). Replays c.args.machine.now 0 replay)
    (λ replay is. replays_first c.args.machine.now replay
    (is ∙ ap₂ opened c.in_ok-shared_image.ensures c.limits.ensures))
    c.open.ensures
