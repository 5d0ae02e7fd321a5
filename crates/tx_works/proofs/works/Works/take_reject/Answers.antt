-- The seat of the CPU alone has changed.
use Rattle.std.proofs.Common.{◌<◌, length, sym, ap, subst, ◌∙◌}
use Rattle.std.proofs.lemmas.List.{get_or_read}
use Rattle.tx_keeping.specs.Moves.{k_rejected}
use Rattle.tx_works.specs.Works.{Works, kept_by}
use Rattle.tx_works.specs.contracts.works.Works.{the_view}
use Rattle.tx_works.proofs.Changed.{with_slot, reject_kept}
use Rattle.tx_works.proofs.works.Works.take_reject.Goals as goal

pub returns-clause-kept : goal.returns-clause-kept
returns-clause-kept c rest =
    let w = the_view c.self.inside in
    let lt = subst (λ (w : Works). c.args.cpu < length w.slots) (sym c.self.view_is) c.requires.cpu in
    ap (λ s. kept_by rest (with_slot w c.args.cpu s)) c.count_reject.ensures.value
    ∙ reject_kept rest w c.args.cpu lt c.index_mut.result.now
    (get_or_read w.slots c.args.cpu c.index_mut.result.now lt c.index_mut.ensures.value rest)
    ∙ ap (λ w. k_rejected c.args.cpu (kept_by rest w)) c.self.view_is
