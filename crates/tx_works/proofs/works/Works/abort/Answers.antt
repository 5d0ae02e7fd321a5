-- The attempt ends, the CPU moves on the ladder, and this is written down.
use Rattle.std.proofs.Common.{ap, sym, subst, ◌∙◌}
use Rattle.tx_journal.specs.declared.entries.Entry.TheVariants.{Abort}
use Rattle.tx_progress.specs.Local.{aborted}
use Rattle.tx_keeping.specs.Kept.{Kept, beside}
use Rattle.tx_works.specs.Works.{Works, kept_by}
use Rattle.tx_works.specs.Ready.{MayEndBy}
use Rattle.tx_works.specs.Steps.{k_left, k_on_rung, k_written, rung_after}
use Rattle.tx_works.proofs.Climbing.{may-end-left}
use Rattle.tx_works.proofs.Made.{aborting-made}
use Rattle.tx_works.proofs.works.Works.abort.Goals as goal

pub move_by_cause-requires-clause-climbs : goal.move_by_cause-requires-clause-climbs
move_by_cause-requires-clause-climbs c rest =
    let k = kept_by rest c.args.self.now in
    let left = aborted c.args.why c.args.at (beside k c.args.cpu) in
    subst (λ (q : Kept). MayEndBy c.args.why q c.args.cpu) (sym (c.end_attempt-count.ensures.value rest))
    (may-end-left c.args.why c.args.cpu c.args.cpu left k (c.requires.climbs rest))

pub returns-clause-value : goal.returns-clause-value
returns-clause-value c rest =
    let k = kept_by rest c.args.self.now in
    let why = c.args.why in
    let cpu = c.args.cpu in
    ap (λ (w : Works). kept_by rest w) c.write.ensures
    ∙ ap (k_written (Abort cpu c.end_attempt-count.result why))
    (c.move_by_cause.ensures.value rest
    ∙ ap (k_on_rung (rung_after why) cpu) (c.end_attempt-count.ensures.value rest))
    ∙ ap (λ n. k_written (Abort cpu n why)
    (k_on_rung (rung_after why) cpu (k_left cpu (aborted why c.args.at (beside k cpu)) k)))
    (c.end_attempt-count.ensures.count rest)
    ∙ sym (aborting-made cpu why c.args.at k)
