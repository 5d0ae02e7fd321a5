-- What is kept is what the recorded events mean.
use Rattle.std.proofs.Common.{sym, ap, ◌∙◌}
use Rattle.tx_meaning.specs.State.{State}
use Rattle.tx_machine.specs.Machine.{Seen, state_of}
use Rattle.tx_machine.specs.declared.machine.Machine.TheInside.{Inside}
use Rattle.tx_machine.proofs.Read.{reads_state}
use Rattle.tx_machine.proofs.machine.Machine.journal.Goals as goal

pub returns : goal.returns
returns c =
    c.as_slice.ensures.value ∙ ap (λ (i : Inside). i.works.history) c.self-inside.view_is
    ∙ sym (ap (λ (t : State). t.history) (reads_state _ _ _ c.self.invariant.stands))
    ∙ ap (λ (s : Seen). (state_of s).history) c.self.view_is
