-- The CPU is that of what is shown.
use Rattle.std.proofs.Common.{◌≡◌, ◌<◌, get_or, length, take, sym, ap, subst, ◌∙◌}
use Rattle.tx_meaning.specs.Meaning.{meaning}
use Rattle.tx_meaning.specs.Shown.{levels_at}
use Rattle.tx_machine.specs.Machine.{setting_of}
use Rattle.step_changes.specs.Seen.{Sight, CpuSeen}
use Rattle.tx_step.specs.Sights.{cpu_seen, shown_of}
use Rattle.tx_step.specs.Traces.{Traced, setting_in, state_at}
use Rattle.step_changes.proofs.Listed.{cpus_size, cpu_at}
use Rattle.tx_step.proofs.trace.Trace.live.Goals as goal

pub cpu-requires : goal.cpu-requires
cpu-requires c =
    let inside = c.self.inside in
    let m = setting_of inside.machine in
    let s = meaning m (take inside.position inside.machine.events) in
    let known : c.args.cpu < length inside.machine.image.cpus =
    subst (λ (t : Traced). c.args.cpu < length t.image.cpus) (sym c.self.view_is) c.requires in
    subst (λ (v : Sight). c.args.cpu < length v.cpus) (sym c.self.invariant.shown)
    (subst (λ n. c.args.cpu < n) (sym (cpus_size (shown_of m s))) known)

pub returns : goal.returns
returns c =
    let inside = c.self.inside in
    let m = setting_of inside.machine in
    let s = meaning m (take inside.position inside.machine.events) in
    let known : c.args.cpu < length inside.machine.image.cpus =
    subst (λ (t : Traced). c.args.cpu < length t.image.cpus) (sym c.self.view_is) c.requires in
    let seen : c.cpu.result.now ≡ cpu_seen m s c.args.cpu =
    c.cpu.ensures ∙ ap (λ (v : Sight). get_or v.cpus c.args.cpu c.cpu.result.now) c.self.invariant.shown
    ∙ cpu_at (shown_of m s) c.args.cpu c.cpu.result.now known in
    c.live.ensures ∙ ap (λ (x : CpuSeen). x.live) seen
    ∙ ap (λ (t : Traced). levels_at (setting_in t) (state_at t) c.args.cpu) c.self.view_is
