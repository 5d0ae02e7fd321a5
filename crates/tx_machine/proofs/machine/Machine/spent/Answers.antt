-- What is kept is what the recorded events mean.
use Rattle.std.proofs.Common.{ℕ, sym, ap, ◌∙◌}
use Rattle.std.specs.Prelude.{nat_le}
use Rattle.std.specs.Arc.{arc_value}
use Rattle.tx_meaning.specs.Limits.{Setting}
use Rattle.tx_meaning.specs.State.{State}
use Rattle.tx_meaning.specs.Idle.{is_spent}
use Rattle.tx_machine.specs.Machine.{Seen, state_of, nobody}
use Rattle.tx_home.specs.Works.{kept_by}
use Rattle.tx_machine.specs.declared.machine.Machine.TheInside.{Inside}
use Rattle.tx_machine.proofs.Read.{reads_state}
use Rattle.tx_machine.proofs.machine.Machine.spent.Goals as goal

pub returns : goal.returns
returns c =
    let m : Setting = record { image = arc_value c.self.inside.program; limits = c.self.inside.limits } in
    ap (λ (n : ℕ). nat_le c.self-inside.inside.0.1.0.turns n) (c.turns.ensures (nobody m))
    ∙ ap (λ (i : Inside). nat_le i.limits.turns ((kept_by (nobody m) i.works).state.numbers c.args.cpu).turns)
    c.self-inside.view_is
    ∙ sym (ap (λ (t : State). is_spent m.limits (t.numbers c.args.cpu))
    (reads_state m c.self.inside.works _ c.self.invariant.stands))
    ∙ ap (λ (s : Seen). is_spent s.limits ((state_of s).numbers c.args.cpu)) c.self.view_is
