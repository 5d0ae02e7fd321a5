use Rattle.std.proofs.Common.{◌≡◌, true, false, nat_eq, length, sym, ap, ◌∙◌}
use Rattle.std.proofs.lemmas.Bool.{true≢false}
use Rattle.tx_journal.proofs.Decimals.{not_other}
use Rattle.report_form.proofs.Counted.{no_blank, split_count, no_end, split_end, some_count, none_counted}
use Rattle.report_form.proofs.Counted.{equal_then, empty_is}
use Rattle.report_form.proofs.sheet.count_in.Goals as goal

pub returns-in_err-word-clause-none : goal.returns-in_err-word-clause-none
returns-in_err-word-clause-none c =
    rw c.from_residual.ensures
    (λ n few is. no_blank c.args.name c.args.line.now n c.in_err-word.ensures.none is)

pub returns-then-ne-clause-none : goal.returns-then-ne-clause-none
returns-then-ne-clause-none c = λ n few is.
    let same =
    split_count c.args.name c.args.line.now c.in_ok-word.word.now c.in_ok-word.rest.now n c.in_ok-word.ensures.some
    c.in_ok-word.ensures.first is in
    not_other c.in_ok-word.word.now c.text.result.now c.ne.result (same.front ∙ sym c.text.ensures) c.ne.ensures
    c.if-ne.true

pub returns-in_err-digits-clause-none : goal.returns-in_err-digits-clause-none
returns-in_err-digits-clause-none c =
    rw c.from_residual-in_err-digits.ensures
    (λ n few is. no_end c.args.name c.args.line.now c.in_ok-word.word.now c.in_ok-word.rest.now n
    c.in_ok-word.ensures.some c.in_ok-word.ensures.first c.in_err-digits.ensures.none is)

pub returns-then-not-is_empty-clause-none : goal.returns-then-not-is_empty-clause-none
returns-then-not-is_empty-clause-none c = λ n few is.
    let same =
    split_end c.args.name c.args.line.now c.in_ok-word.word.now c.in_ok-word.rest.now c.in_ok-digits.digits.now
    c.in_ok-digits.behind.now n few c.in_ok-word.ensures.some c.in_ok-word.ensures.first c.in_ok-digits.ensures.some
    c.in_ok-digits.ensures.first is in
    let none : c.is_empty.result ≡ true =
    c.is_empty.ensures ∙ ap (λ b. nat_eq (length b) 0) same.behind in
    let some : c.is_empty.result ≡ false = c.if-not-is_empty.true in
    let no : true ≡ false = sym none ∙ some in
    true≢false no

pub returns-clause-some : goal.returns-clause-some
returns-clause-some c =
    some_count c.args.name c.args.line.now c.in_ok-word.word.now c.in_ok-word.rest.now c.in_ok-digits.digits.now
    c.in_ok-digits.behind.now c.read_number.result c.in_ok-word.ensures.some
    (equal_then c.in_ok-word.word.now c.text.result.now c.ne.result c.ne.ensures c.if-ne.false ∙ c.text.ensures)
    c.in_ok-digits.ensures.some
    (empty_is c.in_ok-digits.behind.now c.is_empty.result c.is_empty.ensures c.if-not-is_empty.false)
    c.read_number.ensures.some

pub returns-clause-none : goal.returns-clause-none
returns-clause-none c =
    none_counted c.args.name c.args.line.now c.in_ok-word.word.now c.in_ok-word.rest.now c.in_ok-digits.digits.now
    c.in_ok-digits.behind.now c.read_number.result c.in_ok-word.ensures.some c.in_ok-word.ensures.first
    c.in_ok-digits.ensures.some c.in_ok-digits.ensures.first c.read_number.ensures.none
