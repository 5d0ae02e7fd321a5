-- A CPU that is lent runs, and its run is as the machine has it.
use Rattle.std.proofs.Common.{◌≡◌, ◌<◌, true, length, sym, subst}
use Rattle.std.specs.Arc.{arc_value}
use Rattle.tx_serial.specs.Apply.{is_running}
use Rattle.tx_home.specs.Kept.{Kept}
use Rattle.tx_meaning.specs.Limits.{Setting}
use Rattle.tx_home.specs.Works.{kept_by}
use Rattle.tx_home.specs.Lending.{IsLentBy}
use Rattle.tx_machine.specs.Lending.{kept_of}
use Rattle.tx_machine.specs.Machine.{Seen, nobody}
use Rattle.tx_machine.specs.contracts.machine.Machine.{the_view}
use Rattle.tx_machine.proofs.Runner.{lent_runs}
use Rattle.tx_machine.proofs.machine.Machine.lend.Goals as goal

pub lend-requires-clause-runs : goal.lend-requires-clause-runs
lend-requires-clause-runs c rest =
    let m : Setting = record { image = arc_value c.self.inside.program; limits = c.self.inside.limits } in
    let known : c.args.cpu < length m.image.cpus =
    subst (λ (s : Seen). c.args.cpu < length s.image.cpus) (sym c.self.view_is) c.requires in
    subst (λ i. is_running ((kept_by rest c.self.inside.works).locals i).attempt.cpu.state ≡ true)
    (sym c.in-Some-take.ensures.own)
    (lent_runs m c.self.inside.works _ c.self.invariant.stands c.args.cpu known rest
    (sym (c.in_default.ensures rest m.image)))

pub returns-clause-lent : goal.returns-clause-lent
returns-clause-lent c =
    let m : Setting = record { image = arc_value c.self.inside.program; limits = c.self.inside.limits } in
    let r = c.lend.new.run in
    subst (λ (s : Seen). IsLentBy s.limits (kept_of s) c.args.cpu r) c.self.view_is
    (subst (λ i. IsLentBy c.self.inside.limits (kept_of (the_view c.self.inside)) i r) c.in-Some-take.ensures.own
    (subst (λ (t : Kept). IsLentBy c.self.inside.limits t c.in-Some-take.run'.cpu r) c.self.invariant.stands.kept
    (c.lend.ensures.lent (nobody m))))
