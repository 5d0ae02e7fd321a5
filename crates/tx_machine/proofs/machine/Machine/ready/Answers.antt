-- What is kept is what the recorded events mean.
use Rattle.std.proofs.Common.{sym, ap, ◌∙◌}
use Rattle.std.specs.Prelude.{is_none}
use Rattle.std.specs.Arc.{arc_value}
use Rattle.tx_meaning.specs.Idle.{is_ready}
use Rattle.tx_meaning.specs.Limits.{Setting}
use Rattle.tx_machine.specs.Machine.{Seen, setting_of, state_of, nobody}
use Rattle.tx_machine.proofs.Read.{reads_idle, none_by}
use Rattle.tx_machine.proofs.machine.Machine.ready.Goals as goal

pub returns : goal.returns
returns c =
    let m : Setting = record { image = arc_value c.self.inside.program; limits = c.self.inside.limits } in
    none_by c.idle.result c.is_none.result c.is_none.ensures ∙ ap is_none (c.idle.ensures (nobody m) m.image
    ∙ sym (reads_idle m c.self.inside.works _ c.self.invariant.stands c.args.cpu))
    ∙ ap (λ (s : Seen). is_ready (setting_of s) (state_of s) c.args.cpu) c.self.view_is
