-- A CPU more is told, and there are no more than sixteen.
use Rattle.std.proofs.Common.{◌∙◌, sym, ap, ap₂, List, [], ◌∷◌, ◌++◌, map, length, arith}
use Rattle.std.proofs.lemmas.List.{map-append, length-map}
use Rattle.std.proofs.lemmas.List.FromFn.{map-range_with_len_more, length-map-range_with_len}
use Rattle.report_text.specs.Shown.{ShownCpu, shown_cpu}
use Rattle.tx_machine.specs.Machine.{setting_of, state_of}
use Rattle.tx_report.specs.Shown.{cpu_shown}
use Rattle.tx_report.proofs.processors.processors.Goals as goal

pub loop-cpu-preserved : goal.loop-cpu-preserved
loop-cpu-preserved c =
    let machine = c.args.machine.now in
    ap (map shown_cpu) c.in_ok-push.ensures.items
    ∙ map-append shown_cpu c.loop-cpu.cpus.items (c.processor_of.result ∷ [])
    ∙ ap₂ (λ (some : List ShownCpu) (one : ShownCpu). some ++ one ∷ []) c.loop-cpu.invariant
    c.processor_of.ensures
    ∙ sym (map-range_with_len_more (cpu_shown (setting_of machine) (state_of machine)) 0 c.loop-cpu.cpu
    c.loop-cpu.cpu (omega arith))

pub returns-clause-few : goal.returns-clause-few
returns-clause-few c =
    let machine = c.args.machine.now in
    let all = length-map c.loop-cpu.cpus.items shown_cpu in
    let same = ap length c.loop-cpu.invariant in
    let numbers =
    length-map-range_with_len (cpu_shown (setting_of machine) (state_of machine)) 0 c.loop-cpu.cpu in
    omega arith
