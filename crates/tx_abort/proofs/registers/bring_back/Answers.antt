use Rattle.std.proofs.Common.{◌≡◌, get_or, set, ap, sym, ◌∙◌, arith}
use Rattle.tx_abort.proofs.Pairs.{brought, left, all_brought}
use Rattle.tx_abort.proofs.registers.bring_back.Goals as goal
use Rattle.tx_abort.proofs.registers.bring_back.Goals.{then-is_saved, else-is_saved}

pub loop-r-preserved : goal.loop-r-preserved
loop-r-preserved c = (
  c.if-is_saved.array_long,
  λ k. elim c.if-is_saved.branch [
    | then-is_saved w ↦
        let set_now : c.if-is_saved.general ≡
        set c.loop-r.general c.loop-r.r (get_or c.args.saved.now c.loop-r.r 0) =
        w.general-is
        ∙ (λ i. set c.loop-r.general (w.from-then-is_saved.ensures i)
        (get_or c.args.saved.now (w.from.ensures i) 0)) in
        ap (λ xs. get_or xs k 0) set_now
        ∙ brought c.loop-r.r c.args.saved.now c.args.mask c.args.general.now c.loop-r.general
        (omega (arith, c.loop-r.invariant.0)) (sym (w.if-is_saved.ensures)) c.loop-r.invariant.1 k
    | else-is_saved w ↦
        ap (λ xs. get_or xs k 0) w.general-is
        ∙ left c.loop-r.r c.args.saved.now c.args.mask c.args.general.now c.loop-r.general
        (sym (w.if-is_saved.ensures)) c.loop-r.invariant.1 k
  ],
)

pub returns : goal.returns
returns c =
    all_brought c.loop-r.r c.args.saved.now c.args.mask c.args.general.now c.loop-r.general
    (omega arith) c.loop-r.invariant.0 c.loop-r.invariant.1
