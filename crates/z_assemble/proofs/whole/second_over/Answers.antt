use Rattle.std.proofs.Common.{◌≡◌, ◌<◌, ◌≤◌, Ok, Err, arith, length, get_or, sym, subst}
use Rattle.std.proofs.lemmas.List.Elements.{All-get_or}
use Rattle.std.proofs.lemmas.Result.{err_from_is_err_and}
use Rattle.z_reading.specs.Kept.{LiesIn}
use Rattle.z_setup.specs.Setup.{machine_of, known_of}
use Rattle.z_assemble.specs.Steps.{Passes}
use Rattle.z_assemble.specs.Whole.{second_on}
use Rattle.z_assemble.proofs.Loops.{works_go, works_fail, works_over}
use Rattle.z_assemble.proofs.whole.second_over.Goals as goal

pub with_text-work-requires : goal.with_text-work-requires
with_text-work-requires c =
    let works = c.args.works.now in
    let same = c.deref-kept-items.ensures.value in
    let within = subst (λ l. c.loop-kept.kept-index < length l) same c.loop-kept-test.true in
    let item = subst (λ l. c.kept-item.result ≡ get_or l c.loop-kept.kept-index c.kept-item.result) same
    c.kept-item.is in
    let lies = All-get_or (LiesIn (length works.text.now)) works.kept.items c.loop-kept.kept-index
    c.kept-item.result within works.inside in
    subst (LiesIn (length works.text.now)) (sym item) lies

pub loop-kept-preserved : goal.loop-kept-preserved
loop-kept-preserved c =
    let works = c.args.works.now in
    let same = c.deref-kept-items.ensures.value in
    let within = subst (λ l. c.loop-kept.kept-index < length l) same c.loop-kept-test.true in
    let item = subst (λ l. c.kept-item.result ≡ get_or l c.loop-kept.kept-index c.kept-item.result) same
    c.kept-item.is in
    let known = known_of c.args.labels.now works in
    record {
      same = works_go known works.text.now works.kept.items c.loop-kept.kept-index
          (machine_of c.loop-kept.setup) _ _ c.kept-item.result within item
          c.loop-kept.invariant.same
          (subst (λ t. second_on known t (machine_of c.loop-kept.setup) ≡ Ok (machine_of c.second_on.new.setup))
          c.with_text-work.ensures c.in_ok-second_on.ensures.passes);
      entered = omega arith;
    }

pub returns-in_err-second_on : goal.returns-in_err-second_on
returns-in_err-second_on c =
    let works = c.args.works.now in
    let same = c.deref-kept-items.ensures.value in
    let within = subst (λ l. c.loop-kept.kept-index < length l) same c.loop-kept-test.true in
    let item = subst (λ l. c.kept-item.result ≡ get_or l c.loop-kept.kept-index c.kept-item.result) same
    c.kept-item.is in
    let known = known_of c.args.labels.now works in
    let p = err_from_is_err_and c.from_residual.result c.from_residual.ensures.1 in
    rw (p.1, p.2)
    (works_fail known works.text.now works.kept.items c.loop-kept.kept-index
    (machine_of c.loop-kept.setup) _ _ c.kept-item.result c.in_err-second_on.field-0.0
    within item c.loop-kept.invariant.same
    (subst (λ t. Passes (Err c.in_err-second_on.field-0.0) (second_on known t (machine_of c.loop-kept.setup))
    (machine_of c.second_on.new.setup))
    c.with_text-work.ensures c.in_err-second_on.ensures.passes))

pub returns : goal.returns
returns c =
    let works = c.args.works.now in
    let behind = subst (λ l. length l ≤ c.loop-kept.kept-index) c.deref-kept-items.ensures.value
    c.loop-kept-test.false in
    works_over (known_of c.args.labels.now works) works.text.now works.kept.items c.loop-kept.kept-index
    (machine_of c.loop-kept.setup) _ behind c.loop-kept.invariant.same
