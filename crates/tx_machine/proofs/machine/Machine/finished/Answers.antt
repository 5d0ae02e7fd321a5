-- What is kept is what the recorded events mean.
use Rattle.std.proofs.Common.{sym, ap, ◌∙◌}
use Rattle.std.specs.Arc.{arc_value}
use Rattle.tx_meaning.specs.Idle.{is_finished}
use Rattle.tx_meaning.specs.Limits.{Setting}
use Rattle.tx_machine.specs.Machine.{Seen, setting_of, state_of, nobody}
use Rattle.tx_machine.proofs.Read.{reads_finished}
use Rattle.tx_machine.proofs.machine.Machine.finished.Goals as goal

pub returns : goal.returns
returns c =
    let m : Setting = record { image = arc_value c.self.inside.program; limits = c.self.inside.limits } in
    c.is_finished.ensures (nobody m) ∙ sym (reads_finished m c.self.inside.works _ c.self.invariant.stands c.args.cpu)
    ∙ ap (λ (s : Seen). is_finished (setting_of s) (state_of s) c.args.cpu) c.self.view_is
