use Rattle.std.proofs.Common.{arith}
use Rattle.std.specs.Fmt.{decimal}
use Rattle.tx_journal.proofs.Decimals.{same_start}
use Rattle.tx_journal.proofs.Readings.{no_commit}
use Rattle.tx_journal.proofs.reading.read_commit.Goals as goal

pub returns-in_err-count-clause-none : goal.returns-in_err-count-clause-none
returns-in_err-count-clause-none c =
    rw c.from_residual-in_err-count.ensures
    (no_commit c.args.text.now (λ cpu count cpu_in count_in is.
    let fits = c.in_ok-cpu.ensures.fits in
    let same =
    same_start c.args.text.now c.in_ok-cpu.cpu cpu c.in_ok-cpu.rest.now (decimal count) (omega arith)
    (omega arith) c.in_ok-cpu.ensures.some is in
    c.in_err-count.ensures.none count count_in same.rest))
