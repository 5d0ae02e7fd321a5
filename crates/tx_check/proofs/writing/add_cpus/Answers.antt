use Rattle.std.proofs.Common.{map, take, ◌+◌, sym}
use Rattle.report_text.specs.Processor.{cpu_lines, cpus_text}
use Rattle.report_text.proofs.Pieces.{one_more}
use Rattle.tx_check.specs.Seen.{shown_seen}
use Rattle.tx_check.proofs.Written.{cpus_more}
use Rattle.tx_check.proofs.writing.add_cpus.Goals as goal

pub loop-number-preserved : goal.loop-number-preserved
loop-number-preserved c =
    let cpus = c.args.cpus.now in
    let k = c.loop-number.number in
    let cpu = c.index-cpus-number.result in
    one_more c.args.text.now.items (cpus_text (map shown_seen (take (k + 1) cpus)))
    (cpus_text (map shown_seen (take k cpus))) (cpu_lines k (shown_seen cpu)) c.loop-number.text.items
    c.add_cpu.new.text.items c.loop-number.invariant c.in_ok-add_cpu.ensures
    (cpus_more cpus k cpu c.loop-number-test.true (sym c.index-cpus-number.is))
