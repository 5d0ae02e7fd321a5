-- What is kept is what the recorded events mean.
use Rattle.std.proofs.Common.{sym, ap, ◌∙◌}
use Rattle.std.specs.Prelude.{slice_get}
use Rattle.tx_meaning.specs.State.{State}
use Rattle.tx_machine.specs.Machine.{Seen, state_of}
use Rattle.tx_machine.specs.declared.machine.Machine.TheInside.{Inside}
use Rattle.tx_machine.proofs.Read.{reads_state}
use Rattle.tx_machine.proofs.machine.Machine.queue_head.Goals as goal

pub returns : goal.returns
returns c =
    c.head.ensures.value ∙ ap (λ (i : Inside). slice_get i.works.queue 0) c.self-inside.view_is
    ∙ sym (ap (λ (t : State). slice_get t.queue 0) (reads_state _ _ _ c.self.invariant.stands))
    ∙ ap (λ (s : Seen). slice_get (state_of s).queue 0) c.self.view_is
