use Rattle.std.proofs.Common.{◌≡◌, ◌∙◌, ap, arith, sym}
use Rattle.std.proofs.lemmas.Bool.{false≢true}
use Rattle.std.proofs.lemmas.Result.{Ok-from_Ok_iff}
use Rattle.std.specs.Result.{is_ok}
use Rattle.std.proofs.lemmas.Fmt.{decimal_injective}
use Rattle.tx_journal.proofs.numbers.read_small.Goals as goal

pub returns-in_err-number-2-clause-none : goal.returns-in_err-number-2-clause-none
returns-in_err-number-2-clause-none c = rw c.from_residual-in_err-number-2.ensures (λ n few is.
    let same : c.in_ok-number.number ≡ n =
    decimal_injective c.in_ok-number.number n (omega arith) (omega arith) (sym c.in_ok-number.ensures.some ∙ is) in
    false≢true (c.in_err-number-2.ensures.variant
    ∙ ap is_ok (Ok-from_Ok_iff c.try_from.result _ _ c.try_from.ensures (omega arith))))
