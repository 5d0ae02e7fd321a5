use Rattle.std.proofs.Common.{◌∙◌, sym}
use Rattle.std.proofs.lemmas.Bool.{false≢true}
use Rattle.report_form.proofs.SpellingLemmas.{nothing_tells, uncut, other_word, more_tells}
use Rattle.report_form.proofs.spelling.+is_spelled.Goals as goal

pub returns-in_default : goal.returns-in_default
returns-in_default t c =
    nothing_tells c.args.words.now c.args.line.now c.is_empty.result c.in_default.ensures.cases
    c.is_empty.ensures

pub returns-in_default-cut : goal.returns-in_default-cut
returns-in_default-cut t c = (
  λ h. absurd (false≢true h),
  λ h.
      absurd (uncut c.args.words.now c.in-Some.word.now c.in-Some.others.now c.args.line.now
      c.stop_behind.result c.in-Some.ensures.cases.0 c.stop_behind.ensures c.in_default-cut.ensures.none h),
)

pub returns-then-not-is_word : goal.returns-then-not-is_word
returns-then-not-is_word t c = (
  λ h. absurd (false≢true h),
  λ h.
      absurd (other_word c.args.words.now c.in-Some.word.now c.in-Some.others.now c.args.line.now
      c.in-Some-cut.front.now c.in-Some-cut.rest.now c.stop_behind.result c.in-Some.ensures.cases.0
      c.stop_behind.ensures c.in-Some-cut.ensures.some c.in-Some-cut.ensures.first
      (λ is. false≢true (sym c.if-not-is_word.true ∙ c.is_word.ensures.1 is)) h),
)

pub returns : goal.returns
returns t c =
    more_tells c.args.words.now c.in-Some.word.now c.in-Some.others.now c.args.line.now
    c.in-Some-cut.front.now c.in-Some-cut.rest.now c.stop_behind.result c.is_spelled.result
    c.in-Some.ensures.cases.0 c.stop_behind.ensures c.in-Some-cut.ensures.some c.in-Some-cut.ensures.first
    (c.is_word.ensures.0 c.if-not-is_word.false) c.is_spelled.ensures
