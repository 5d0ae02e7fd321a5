-- A live attempt is aborted, and the head goes to the tail.
use Rattle.std.proofs.Common.{sym, ap, ◌∙◌}
use Rattle.tx_control.specs.declared.causes.Why.TheVariants.{External}
use Rattle.tx_keeping.specs.Turn.{KTurned, k_external, k_interrupting, k_ends_by, k_to_tail}
use Rattle.tx_works.specs.Turned.{turned_as}
use Rattle.tx_works.specs.Works.{Works, kept_by}
use Rattle.tx_works.proofs.works.Works.external.Goals as goal

pub returns-then-is_live-clause-value : goal.returns-then-is_live-clause-value
unfolding k_external k_ends_by
returns-then-is_live-clause-value c rest =
    let k = kept_by rest c.args.self.now in
    ap (λ (w : Works). turned_as (kept_by rest w) c.end_by.new.turned) c.to_tail.ensures
    ∙ ap (λ (q : KTurned). record q { kept = k_to_tail c.args.cpu q.kept })
    (c.end_by.ensures.value rest
    ∙ ap (λ at. k_ends_by c.args.cpu External at k) (c.next_address-at.ensures rest))
    ∙ ap (λ b. k_interrupting b c.args.cpu k) (sym c.if-is_live.true ∙ c.is_live.ensures rest)

pub returns-clause-value : goal.returns-clause-value
unfolding k_external
returns-clause-value c rest =
    let k = kept_by rest c.args.self.now in
    (λ x. turned_as (kept_by rest (c.to_tail-2.ensures x)) (c.without_reject.ensures x))
    ∙ ap (λ b. k_interrupting b c.args.cpu k) (sym c.if-is_live.false ∙ c.is_live.ensures rest)
