use Rattle.std.proofs.Common.{sym, arith, ◌∙◌}
use Rattle.std.proofs.lemmas.Bool.{false≢true}
use Rattle.step_words.proofs.Telling.{no_range, no_first, no_count, no_bytes}
use Rattle.step_words.proofs.reading.read_bytes.Goals as goal

pub returns-in_err-first-clause-none : goal.returns-in_err-first-clause-none
returns-in_err-first-clause-none c =
    rw c.from_residual.ensures
    (λ first count bytes. no_range c.args.text.now c.in_err-first.ensures.none first count)

pub returns-in_err-first-2-clause-none : goal.returns-in_err-first-2-clause-none
returns-in_err-first-2-clause-none c =
    rw c.from_residual-in_err-first-2.ensures
    (no_first c.args.text.now c.in_ok-first.first.now c.in_ok-first.count.now c.in_ok-first.ensures.some
    c.in_ok-first.ensures.first c.in_err-first-2.ensures.none)

pub returns-in_err-count-clause-none : goal.returns-in_err-count-clause-none
returns-in_err-count-clause-none c =
    rw c.from_residual-in_err-count.ensures
    (no_count c.args.text.now c.in_ok-first.first.now c.in_ok-first.count.now c.in_ok-first.ensures.some
    c.in_ok-first.ensures.first c.in_err-count.ensures.none)

pub returns-then-not-can_be_seen-clause-none : goal.returns-then-not-can_be_seen-clause-none
returns-then-not-can_be_seen-clause-none c =
    no_bytes c.args.text.now c.in_ok-first.first.now c.in_ok-first.count.now c.in_ok-first.ensures.some
    c.in_ok-first.ensures.first c.in_ok-first-2.first c.in_ok-count.count (omega arith) (omega arith)
    c.in_ok-first-2.ensures.some c.in_ok-count.ensures.some
    (λ bytes. false≢true (sym c.if-not-can_be_seen.true ∙ c.can_be_seen.ensures.1 bytes))
