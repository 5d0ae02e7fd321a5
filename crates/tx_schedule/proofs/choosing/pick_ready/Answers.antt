-- A CPU that is drawn is one of the ready ones.
use Rattle.std.proofs.Common.{◌≡◌, ◌<◌, All, List, ℕ, true, length, sym, subst}
use Rattle.tx_meaning.specs.Idle.{is_ready}
use Rattle.tx_machine.specs.Machine.{setting_of, state_of}
use Rattle.tx_schedule.proofs.choosing.pick_ready.Goals as goal

pub returns-clause-known : goal.returns-clause-known
returns-clause-known c =
    let cpus = length c.args.machine.now.image.cpus in
    c.pick.ensures.known cpus
    (subst (λ (l : List ℕ). All (λ cpu. cpu < cpus) l) (sym c.as_slice.ensures.value)
    c.ready_among.ensures.known)

pub returns-clause-ready : goal.returns-clause-ready
returns-clause-ready c =
    let test = is_ready (setting_of c.args.machine.now) (state_of c.args.machine.now) in
    c.pick.ensures.alike test
    (subst (λ (l : List ℕ). All (λ cpu. test cpu ≡ true) l) (sym c.as_slice.ensures.value)
    c.ready_among.ensures.ready)
