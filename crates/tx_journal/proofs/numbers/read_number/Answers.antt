use Rattle.std.proofs.Common.{◌≡◌, ◌∙◌, sym, ap}
use Rattle.std.specs.Fmt.{decimal}
use Rattle.tx_journal.proofs.Decimals.{decimal_is_text, decimal_is_parsed, decimal_is_value, not_other}
use Rattle.tx_journal.proofs.numbers.read_number.Goals as goal

pub returns-in_default-clause-none : goal.returns-in_default-clause-none
returns-in_default-clause-none c =
    λ n few is. c.in_default.ensures.cases.0 (decimal_is_text c.args.text.now n few is)

pub returns-in_default-parse-clause-none : goal.returns-in_default-parse-clause-none
returns-in_default-parse-clause-none c = λ n few is.
    decimal_is_parsed c.in-Ok.digits.now n c.in_default-parse.field-0 few (c.in-Ok.ensures.cases.0
    ∙ is) c.in_default-parse.ensures.value.0

pub returns-then-ne-clause-none : goal.returns-then-ne-clause-none
returns-then-ne-clause-none c = λ n few is.
    let same = decimal_is_value c.in-Ok.digits.now c.in-Ok-parse.number n few (c.in-Ok.ensures.cases.0
    ∙ is) c.in-Ok-parse.ensures.value.0 in
    let written : c.as_bytes.result.now ≡ c.args.text.now = c.as_bytes.ensures.value ∙ c.format.ensures.text
    ∙ ap decimal same ∙ sym is in
    not_other c.as_bytes.result.now c.args.text.now c.ne.result written c.ne.ensures c.if-ne.true
