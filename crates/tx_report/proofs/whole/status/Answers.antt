-- One CPU that is not finished decides, or none is left.
use Rattle.std.proofs.Common.{◌∙◌, ◌<◌, refl, sym, arith}
use Rattle.report_text.specs.Shown.{ShownCpu}
use Rattle.tx_meaning.specs.State.{cpus_of}
use Rattle.tx_machine.specs.Machine.{setting_of, state_of}
use Rattle.tx_report.specs.Report.{status_of}
use Rattle.tx_report.specs.Shown.{cpu_shown}
use Rattle.tx_report.proofs.Places.{all_pass, one_fails}
use Rattle.tx_report.proofs.whole.status.Goals as goal

pub returns-then-not-finished : goal.returns-then-not-finished
unfolding status_of
returns-then-not-finished c =
    let m = setting_of c.args.machine.now in
    let s = state_of c.args.machine.now in
    let within : c.loop-cpu.cpu < cpus_of m = omega arith in
    rw (one_fails (λ (cpu : ShownCpu). cpu.finished) (cpu_shown m s) (cpus_of m) c.loop-cpu.cpu within
    (sym c.finished.ensures ∙ c.if-not-finished.true)) refl

pub returns : goal.returns
unfolding status_of
returns c =
    let m = setting_of c.args.machine.now in
    let s = state_of c.args.machine.now in
    rw (all_pass (λ (cpu : ShownCpu). cpu.finished) (cpu_shown m s) (cpus_of m)
    (λ k h. c.loop-cpu.invariant k (omega arith))) refl
