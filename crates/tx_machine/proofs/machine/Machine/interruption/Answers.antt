-- What is kept is what the recorded events mean.
use Rattle.std.proofs.Common.{◌<◌, sym, ap, ◌∙◌, subst, length}
use Rattle.std.specs.Prelude.{get_or}
use Rattle.std.proofs.lemmas.List.{get_or_default}
use Rattle.tx_meaning.specs.Limits.{Setting}
use Rattle.tx_home.specs.Parts.{local_of}
use Rattle.tx_meaning.specs.State.{cpu_of, flat_of}
use Rattle.tx_machine.specs.Machine.{code_awaited}
use Rattle.z_regs.specs.Cpu.{Cpu}
use Rattle.std.specs.Prelude.{Option}
use Rattle.std.specs.Arc.{arc_value}
use Rattle.z_regs.specs.declared.waiting.Waiting.{Waiting}
use Rattle.tx_meaning.specs.Meaning.{meaning}
use Rattle.tx_home.specs.Works.{Seat}
use Rattle.tx_machine.specs.Machine.{Seen, setting_of, state_of, nobody}
use Rattle.tx_machine.specs.declared.machine.Machine.TheInside.{Inside}
use Rattle.tx_machine.proofs.Read.{reads_cpu, reads_waiting}
use Rattle.tx_machine.proofs.machine.Machine.interruption.Goals as goal

pub returns : goal.returns
returns c =
    let m : Setting = record { image = arc_value c.self.inside.program; limits = c.self.inside.limits } in
    let cpu = c.args.cpu in
    let within : cpu < length c.self.inside.works.slots =
    subst (λ n. cpu < n) (sym c.self.invariant.stands.cpus)
    (subst (λ (s : Seen). cpu < length s.image.cpus) (sym c.self.view_is) c.requires) in
    let inner : cpu < _ = subst (λ (i : Inside). cpu < length i.works.slots) (sym c.self-inside.view_is) within in
    let seat : Seat = get_or c.self.inside.works.slots cpu (nobody m) in
    c.code_awaited.ensures ∙ ap (λ (s : Seat). code_awaited (local_of s.cpu).attempt.cpu.state (local_of s.cpu).waiting)
    (c.behind-self.view_is ∙ c.index.ensures ∙ get_or_default _ cpu _ (nobody m) inner
    ∙ ap (λ (i : Inside). get_or i.works.slots cpu (nobody m)) c.self-inside.view_is)
    ∙ sym (ap (λ (k : Cpu). code_awaited k.state (local_of seat.cpu).waiting)
    (reads_cpu m c.self.inside.works _ c.self.invariant.stands cpu))
    ∙ sym (ap (λ (w : Option Waiting). code_awaited (cpu_of m (meaning m c.self.inside.works.events) cpu).state w)
    (reads_waiting m c.self.inside.works _ c.self.invariant.stands cpu))
    ∙ ap (λ (s : Seen). code_awaited (cpu_of (setting_of s) (state_of s) cpu).state
    ((flat_of (setting_of s) (state_of s)).waiting cpu)) c.self.view_is
