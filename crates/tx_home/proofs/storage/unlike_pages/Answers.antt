use Rattle.std.proofs.Common.{ℕ, Option, None, refl, sym, ap, ◌∙◌, arith}
use Rattle.std.specs.Prelude.{if◌then◌else◌}
use Rattle.std.specs.FinSet.{items}
use Rattle.tx_works.specs.Traces.{is_paged}
use Rattle.tx_home.specs.Places.{at, at_page, page_value}
use Rattle.tx_home.specs.declared.place.Place.TheVariants.{Text}
use Rattle.tx_home.specs.declared.place.Unlike.{Unlike}
use Rattle.tx_home.proofs.Firsts.{below-found, below-none, up-to, up-with, where-marked}
use Rattle.tx_home.proofs.storage.unlike_pages.Goals as goal

pub returns-in-Some-unlike_page-clause-value : goal.returns-in-Some-unlike_page-clause-value
returns-in-Some-unlike_page-clause-value c =
    let text = items c.args.guard.now in
    let r = c.args.run.now in
    let f : ℕ → Option Unlike = at_page text r in
    let page = c.in-Some.page in
    below-found f 256 page c.in-Some-unlike_page.unlike (omega (arith, c.in-Some.ensures.inside))
    (up-to f c.loop-page.from page c.loop-page.invariant.none
    (λ j low high. ap (λ marked. if marked then at (Text j) (page_value text j) (page_value r.text j) else None)
    (c.in-Some.ensures.first j low high)))
    (where-marked (is_paged r.made.traces page) _ _ c.in-Some.ensures.found.1
    ((λ x. at (Text page) (page_value text page) (if sym c.in-Some.ensures.text x then 1 else 0))
    ∙ sym c.unlike_page.ensures.value ∙ c.in-Some-unlike_page.is))

pub loop-page-preserved : goal.loop-page-preserved
loop-page-preserved c =
    let text = items c.args.guard.now in
    let r = c.args.run.now in
    let f : ℕ → Option Unlike = at_page text r in
    let page = c.in-Some.page in
    record {
      none = up-with f c.loop-page.from page c.loop-page.invariant.none
          (λ j low high. ap (λ marked. if marked then at (Text j) (page_value text j) (page_value r.text j) else None)
          (c.in-Some.ensures.first j low high))
          (where-marked (is_paged r.made.traces page) _ _ c.in-Some.ensures.found.1
          ((λ x. at (Text page) (page_value text page) (if sym c.in-Some.ensures.text x then 1 else 0))
          ∙ sym c.unlike_page.ensures.value ∙ c.in_default-unlike_page.is));
    }

pub returns-clause-value : goal.returns-clause-value
returns-clause-value c =
    let text = items c.args.guard.now in
    let r = c.args.run.now in
    let f : ℕ → Option Unlike = at_page text r in
    below-none f 256
    (up-to f c.loop-page.from 256 c.loop-page.invariant.none
    (λ j low high. ap (λ marked. if marked then at (Text j) (page_value text j) (page_value r.text j) else None)
    (c.in_default.ensures.none refl j low)))
