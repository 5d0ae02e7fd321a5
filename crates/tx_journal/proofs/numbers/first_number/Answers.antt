use Rattle.tx_journal.proofs.Decimals.{no_number_before, first_is_number}
use Rattle.tx_journal.proofs.numbers.first_number.Goals as goal

pub returns-in_err-digits-clause-none : goal.returns-in_err-digits-clause-none
returns-in_err-digits-clause-none c =
    rw c.from_residual.ensures
    (λ n rest few. no_number_before c.args.text.now n rest c.in_err-digits.ensures.none)

pub returns-in_err-number-clause-none : goal.returns-in_err-number-clause-none
returns-in_err-number-clause-none c =
    rw c.from_residual-in_err-number.ensures
    (λ n rest few is.
    c.in_err-number.ensures.none n few
    (first_is_number c.args.text.now c.in_ok-digits.digits.now c.in_ok-digits.rest.now n rest few
    c.in_ok-digits.ensures.first c.in_ok-digits.ensures.some is))
