-- One CPU more is finished, or is not.
use Rattle.std.proofs.Common.{◌≡◌, ◌<◌, ◌≤◌, ◌∙◌, sym, ap, length, arith}
use Rattle.std.specs.List.{list_all, range_with_len}
use Rattle.std.proofs.lemmas.List.{take_all}
use Rattle.std.proofs.lemmas.List.FromFn.{length-range_with_len}
use Rattle.tx_journal.specs.Content.{Content}
use Rattle.tx_meaning.specs.Idle.{is_finished}
use Rattle.tx_schedule.specs.Machine.{setting_of, state_of}
use Rattle.tx_heat.proofs.Tracks.{one_fails, one_more_passes}
use Rattle.tx_heat.proofs.measuring.are_finished.Goals as goal

pub returns-then-not-finished : goal.returns-then-not-finished
returns-then-not-finished c =
    let machine = c.args.machine.now in
    let count : length c.image.result.now.cpus ≡ length machine.image.cpus =
    ap (λ (i : Content). length i.cpus) c.image.ensures in
    let within : c.loop-cpu.cpu < length machine.image.cpus = omega arith in
    sym (one_fails (is_finished (setting_of machine) (state_of machine)) (length machine.image.cpus) c.loop-cpu.cpu
    within (sym c.if-not-finished.ensures))

pub loop-cpu-preserved : goal.loop-cpu-preserved
loop-cpu-preserved c =
    let machine = c.args.machine.now in
    let count : length c.image.result.now.cpus ≡ length machine.image.cpus =
    ap (λ (i : Content). length i.cpus) c.image.ensures in
    let within : c.loop-cpu.cpu < length machine.image.cpus = omega arith in
    one_more_passes (is_finished (setting_of machine) (state_of machine)) (length machine.image.cpus) c.loop-cpu.cpu
    within c.loop-cpu.invariant (sym c.if-not-finished.ensures)

pub returns : goal.returns
returns c =
    let machine = c.args.machine.now in
    let count : length c.image.result.now.cpus ≡ length machine.image.cpus =
    ap (λ (i : Content). length i.cpus) c.image.ensures in
    let all = range_with_len 0 (length machine.image.cpus) in
    let size : length all ≤ c.loop-cpu.cpu = omega (arith, length-range_with_len 0 (length machine.image.cpus)) in
    sym (sym (ap (list_all (is_finished (setting_of machine) (state_of machine))) (take_all c.loop-cpu.cpu all size))
    ∙ c.loop-cpu.invariant)
