use Rattle.std.proofs.Common.{refl, sym}
use Rattle.tx_check.proofs.Written.{unfinished}
use Rattle.tx_check.proofs.writing.status.Goals as goal

pub returns-then-not-cpu : goal.returns-then-not-cpu
returns-then-not-cpu c =
    let not_all = unfinished c.args.cpus.now c.loop-cpu.cpu-index c.cpu-item.result c.loop-cpu-test.true
    (sym c.cpu-item.is) c.if-not-cpu.true in
    rw not_all refl
