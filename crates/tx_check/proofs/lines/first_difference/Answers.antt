use Rattle.std.proofs.Common.{◌∙◌, ap, sym, arith, get_or, []}
use Rattle.std.proofs.Common.{take}
use Rattle.std.proofs.lemmas.Bool.{false≢true}
use Rattle.report_form.specs.Text.{lines_of}
use Rattle.report_form.proofs.TextLines.{some_left, none_left}
use Rattle.tx_check.proofs.LineLemmas.{differ_here, first_longer, first_shorter, same_more, all_same}
use Rattle.tx_check.proofs.lines.first_difference.Goals as goal

pub unreachable-requires : goal.unreachable-requires
unreachable-requires c =
    let more = some_left c.args.some.now c.loop-place.place c.loop-place.invariant.place c.loop-place-test.true in
    let none = c.in_default.ensures.none in
    omega (arith, more, none)

pub returns-in_default-line_at-clause-some : goal.returns-in_default-line_at-clause-some
returns-in_default-line_at-clause-some c =
    let one = c.in-Some.ensures.some in
    let none = c.in_default-line_at.ensures.none in
    first_longer (lines_of c.args.some.now) (lines_of c.args.other.now) c.loop-place.place.line one.there
    (omega (arith, none, c.loop-place.invariant.beside)) c.loop-place.invariant.same

pub returns-then-not-is_same-clause-some : goal.returns-then-not-is_same-clause-some
returns-then-not-is_same-clause-some c =
    let one = c.in-Some.ensures.some in
    let other = c.in-Some-line_at.ensures.some in
    let there = other.there in
    differ_here (lines_of c.args.some.now) (lines_of c.args.other.now) c.loop-place.place.line one.there
    (omega (arith, there, c.loop-place.invariant.beside)) c.loop-place.invariant.same
    (λ e. false≢true
    (sym c.if-not-is_same.true
    ∙ c.is_same.ensures.1
    (sym one.is ∙ e ∙ ap (λ n. get_or (lines_of c.args.other.now) n []) (sym c.loop-place.invariant.beside) ∙ other.is)))

pub loop-place-preserved : goal.loop-place-preserved
loop-place-preserved c =
    let k = c.loop-place.place.line in
    let one = c.in-Some.ensures.some in
    let other = c.in-Some-line_at.ensures.some in
    let there = other.there in
    let next = c.in-Some.ensures.behind in
    let other_next = c.in-Some-line_at.ensures.behind in
    let line = next.line in
    let other_line = other_next.line in
    let text = c.is_same.ensures.0 c.if-not-is_same.false in
    let same =
    same_more (lines_of c.args.some.now) (lines_of c.args.other.now) k one.there
    (omega (arith, there, c.loop-place.invariant.beside)) c.loop-place.invariant.same
    (one.is ∙ text ∙ sym other.is ∙ ap (λ n. get_or (lines_of c.args.other.now) n []) c.loop-place.invariant.beside) in
    record {
      place = next.place;
      there = other_next.place;
      beside = omega (arith, line, other_line, c.loop-place.invariant.beside);
      same =
          ap (λ n. take n (lines_of c.args.some.now)) line ∙ same
          ∙ ap (λ n. take n (lines_of c.args.other.now)) (sym line);
    }

pub returns-then-there-other-clause-some : goal.returns-then-there-other-clause-some
returns-then-there-other-clause-some c =
    let past = none_left c.args.some.now c.loop-place.place c.loop-place.invariant.place (omega arith) in
    let more = some_left c.args.other.now c.loop-place.there c.loop-place.invariant.there c.if-there-other.true in
    first_shorter (lines_of c.args.some.now) (lines_of c.args.other.now) c.loop-place.place.line past
    (omega (arith, more, c.loop-place.invariant.beside)) c.loop-place.invariant.same

pub returns-clause-none : goal.returns-clause-none
returns-clause-none c =
    let past = none_left c.args.some.now c.loop-place.place c.loop-place.invariant.place (omega arith) in
    let behind = none_left c.args.other.now c.loop-place.there c.loop-place.invariant.there (omega arith) in
    all_same (lines_of c.args.some.now) (lines_of c.args.other.now) c.loop-place.place.line past
    (omega (arith, behind, c.loop-place.invariant.beside)) c.loop-place.invariant.same
