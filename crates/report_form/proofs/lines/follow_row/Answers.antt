use Rattle.std.proofs.Common.{◌≡◌, drop, subst, arith}
use Rattle.std.specs.Prelude.{replicate}
use Rattle.report_form.specs.Text.{lines_of}
use Rattle.report_form.proofs.Walks.{one_more, stopped, passed}
use Rattle.report_form.specs.Lines.{Fit}
use Rattle.report_form.proofs.lines.follow_row.Goals as goal

pub returns-in_default : goal.returns-in_default
returns-in_default c =
    let place = c.loop-k.invariant.1 in
    let few = place.few in
    let within = place.within in (
      stopped c.args.last c.args.part.row (lines_of c.args.text.now) c.args.at.line c.loop-k._k c.args.part.count
          c.loop-k.place.line c.loop-k.invariant.0 (omega arith) place.known c.loop-k.invariant.2
          c.in_default.ensures.none,
      omega (arith, few, within),
    )

pub loop-k-preserved : goal.loop-k-preserved
loop-k-preserved c =
    let next = c.in-Some.ensures.behind in
    let line = next.line in (
      omega (arith, c.loop-k.invariant.0, line),
      next.place,
      one_more c.args.last c.args.part.row (lines_of c.args.text.now) c.args.at.line c.loop-k._k c.loop-k.place.line
          c.loop-k.invariant.0 c.loop-k.invariant.2 c.in-Some.ensures.some,
    )

pub returns : goal.returns
returns c =
    let all : c.loop-k._k ≡ c.args.part.count = omega arith in
    let place = c.loop-k.invariant.1 in (
      passed c.args.last c.args.part.row (lines_of c.args.text.now) c.args.at.line c.args.part.count
          c.loop-k.place.line (omega (arith, c.loop-k.invariant.0, all)) place.known
          (subst (λ n. Fit c.args.last (replicate n c.args.part.row) (drop c.args.at.line (lines_of c.args.text.now)))
          all c.loop-k.invariant.2),
      place,
    )
