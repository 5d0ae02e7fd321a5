use Rattle.std.proofs.Common.{◌≡◌, ◌<◌, ◌≤◌, ◌∙◌, length, get_or, sym, subst}
use Rattle.z_reading.specs.Listing.{task_in}
use Rattle.z_setup.specs.Machine.{task_places_in}
use Rattle.z_setup.proofs.Lists.{any_here, any_over, any_map}
use Rattle.z_setup.proofs.second.is_text_in.Goals as goal

pub returns-then-places_in : goal.returns-then-places_in
returns-then-places_in c =
    let works = c.args.works.now in
    let same = c.deref-kept-items.ensures.value in
    let within = subst (λ l. c.loop-kept.kept-index < length l) same c.loop-kept-test.true in
    let item = subst (λ l. c.kept-item.result ≡ get_or l c.loop-kept.kept-index c.kept-item.result) same
    c.kept-item.is in
    sym (any_map (task_places_in c.args.area) (task_in works.text.now) works.kept.items
    ∙ (sym c.loop-kept.invariant ∙ any_here (λ k. task_places_in c.args.area (task_in works.text.now k))
    works.kept.items c.loop-kept.kept-index c.kept-item.result within item
    (sym c.places_in.ensures ∙ c.if-places_in.true)))

pub returns : goal.returns
returns c =
    let works = c.args.works.now in
    let behind = subst (λ l. length l ≤ c.loop-kept.kept-index) c.deref-kept-items.ensures.value
    c.loop-kept-test.false in
    sym (any_map (task_places_in c.args.area) (task_in works.text.now) works.kept.items
    ∙ (sym c.loop-kept.invariant ∙ any_over (λ k. task_places_in c.args.area (task_in works.text.now k))
    works.kept.items c.loop-kept.kept-index behind))
