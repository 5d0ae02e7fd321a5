-- A number of one digit is that digit; else both digits are those of the number.
use Rattle.std.proofs.Common.{[], ◌∷◌, ◌++◌, ◌+◌, ◌/◌, ◌%◌, ap, sym, ◌∙◌, arith, append_assoc}
use Rattle.std.proofs.lemmas.Fmt.{decimal_digit}
use Rattle.tx_journal.proofs.Decimals.{two_digits}
use Rattle.tx_journal.proofs.writing.push_tens.Goals as goal

pub returns-then-number-lt10-clause-items : goal.returns-then-number-lt10-clause-items
returns-then-number-lt10-clause-items c =
    ap (λ ds. c.args.text.now.items ++ ds) (sym (decimal_digit c.args.number c.if-number-lt10.true))

pub returns-clause-items : goal.returns-clause-items
returns-clause-items c =
    let n = c.args.number in
    ap (λ xs. xs ++ (48 + n % 10) ∷ []) c.push_reserved.ensures.items
    ∙ append_assoc c.args.text.now.items ((48 + n / 10) ∷ []) ((48 + n % 10) ∷ [])
    ∙ ap (λ ds. c.args.text.now.items ++ ds) (sym (two_digits n (omega arith) (omega arith)))
