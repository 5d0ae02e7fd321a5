-- The text pages of the image are those of its program.
use Rattle.std.proofs.Common.{sym, ap, ◌∙◌}
use Rattle.std.specs.Prelude.{nat_eq}
use Rattle.std.specs.FinSet.{items}
use Rattle.std.specs.FinSet as set
use Rattle.std.specs.List.{list_any}
use Rattle.tx_journal.specs.Content.{Content}
use Rattle.z_touch.proofs.SmallRanges.{any-items}
use Rattle.tx_run.specs.Lent.{Lent}
use Rattle.tx_run.specs.contracts.run.Run.{the_view}
use Rattle.tx_run.proofs.run.Run.next_page.Goals as goal

pub returns-clause-text : goal.returns-clause-text
returns-clause-text c =
    let page = c.in_ok-page.page in
    c.has.ensures.there ∙ ap (λ s. set.contains s page) c.guard.ensures
    ∙ sym (any-items c.deref.result.now.guard page)
    ∙ ap (λ (p : Content). list_any (nat_eq page) (items p.guard)) c.deref.ensures
    ∙ ap (λ (r : Lent). list_any (nat_eq page) r.text) (ap the_view c.self-inside.view_is ∙ c.self.view_is)
