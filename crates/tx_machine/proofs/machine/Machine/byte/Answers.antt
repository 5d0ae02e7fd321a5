-- What is kept is what the recorded events mean.
use Rattle.std.proofs.Common.{sym, ap, ◌∙◌}
use Rattle.tx_home.specs.Owned.{storage_in}
use Rattle.tx_meaning.specs.State.{flat_of}
use Rattle.tx_machine.specs.Machine.{Seen, setting_of, state_of}
use Rattle.tx_machine.specs.declared.machine.Machine.TheInside.{Inside}
use Rattle.tx_machine.proofs.Read.{reads_storage}
use Rattle.tx_machine.proofs.machine.Machine.byte.Goals as goal

pub returns : goal.returns
returns c =
    c.byte.ensures ∙ ap (λ (i : Inside). storage_in i.works.lines c.args.address) c.self-inside.view_is
    ∙ sym (reads_storage _ _ _ c.self.invariant.stands c.args.address)
    ∙ ap (λ (s : Seen). (flat_of (setting_of s) (state_of s)).storage c.args.address) c.self.view_is
