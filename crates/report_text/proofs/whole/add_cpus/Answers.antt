use Rattle.std.proofs.Common.{map, take, ◌+◌, sym}
use Rattle.report_text.specs.Processor.{cpu_lines, cpus_text}
use Rattle.report_text.specs.Shown.{shown_cpu}
use Rattle.report_text.proofs.Numbered.{cpus_more}
use Rattle.report_text.proofs.Pieces.{one_more}
use Rattle.report_text.proofs.whole.add_cpus.Goals as goal

pub loop-number-preserved : goal.loop-number-preserved
loop-number-preserved c =
    let cpus = c.args.cpus.now in
    let k = c.loop-number.number in
    let cpu = c.index-cpus-number.result in
    one_more c.try_reserve.new.self.items (cpus_text (map shown_cpu (take (k + 1) cpus)))
    (cpus_text (map shown_cpu (take k cpus))) (cpu_lines k (shown_cpu cpu)) c.loop-number.text.items
    c.add_cpu.new.text.items c.loop-number.invariant c.in_ok-add_cpu.ensures
    (cpus_more cpus k cpu c.loop-number-test.true (sym c.index-cpus-number.is))
