use Rattle.std.proofs.Common.{arith}
use Rattle.tx_journal.specs.Numbers.{number_before}
use Rattle.tx_journal.specs.Lines.{reason_text}
use Rattle.tx_journal.proofs.Decimals.{same_start}
use Rattle.tx_journal.proofs.Readings.{no_abort}
use Rattle.tx_journal.proofs.reading.read_abort.Goals as goal

pub returns-in_err-count-clause-none : goal.returns-in_err-count-clause-none
returns-in_err-count-clause-none c =
    rw c.from_residual-in_err-count.ensures
    (no_abort c.args.text.now (λ cpu count r cpu_in count_in sound is.
    let fits = c.in_ok-cpu.ensures.fits in
    let same =
    same_start c.args.text.now c.in_ok-cpu.cpu cpu c.in_ok-cpu.rest.now (number_before count (reason_text r))
    (omega arith) (omega arith) c.in_ok-cpu.ensures.some is in
    c.in_err-count.ensures.none count (reason_text r) count_in same.rest))

pub returns-in_err-reason-clause-none : goal.returns-in_err-reason-clause-none
returns-in_err-reason-clause-none c =
    rw c.from_residual-in_err-reason.ensures
    (no_abort c.args.text.now (λ cpu count r cpu_in count_in sound is.
    let fits = c.in_ok-cpu.ensures.fits in
    let fits' = c.in_ok-count.ensures.fits in
    let same =
    same_start c.args.text.now c.in_ok-cpu.cpu cpu c.in_ok-cpu.rest.now (number_before count (reason_text r))
    (omega arith) (omega arith) c.in_ok-cpu.ensures.some is in
    let also =
    same_start c.in_ok-cpu.rest.now c.in_ok-count.count count c.in_ok-count.rest.now
    (reason_text r) (omega arith) (omega arith)
    c.in_ok-count.ensures.some same.rest in
    c.in_err-reason.ensures.none r sound also.rest))
