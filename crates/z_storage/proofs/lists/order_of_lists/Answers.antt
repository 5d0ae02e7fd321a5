-- Eight bytes at a time, and then the rest.
use Rattle.std.proofs.Common.{◌≡◌, ◌≤◌, ◌+◌, ◌*◌, ◌/◌, ◌%◌, arith, ap, sym, ◌∙◌, length}
use Rattle.z_storage.proofs.Order.{left, order_equal, order_differs, order_last, order_end, order_whole}
use Rattle.z_storage.proofs.lists.order_of_lists.Goals as goal

pub loop-k-preserved : goal.loop-k-preserved
loop-k-preserved c =
    let s = c.args.first.now in
    let t = c.args.second.now in
    let n = length s in
    let few : 8 * c.loop-k.k + 8 ≤ n = omega arith in
    let more : 8 * c.loop-k.k + 8 ≡ 8 * (c.loop-k.k + 1) = omega arith in
    c.loop-k.invariant
    ∙ order_equal s t (8 * c.loop-k.k) 8 n few (omega arith) (omega (arith, c.requires.alike))
    (sym c.order_of_item-order.ensures.order ∙ omega (arith, c.if-order-ne0.false))
    ∙ ap (λ j. left s t j n) more

pub returns-then-order-ne0-clause-order : goal.returns-then-order-ne0-clause-order
returns-then-order-ne0-clause-order c =
    let s = c.args.first.now in
    let t = c.args.second.now in
    let n = length s in
    let few : 8 * c.loop-k.k + 8 ≤ n = omega arith in
    c.order_of_item-order.ensures.order
    ∙ sym (order_differs s t (8 * c.loop-k.k) 8 n few (omega arith) (omega (arith, c.requires.alike))
    (λ w. absurd (omega (arith, w, c.order_of_item-order.ensures.order, c.if-order-ne0.true))))
    ∙ sym c.loop-k.invariant

pub returns-then-rest-gt0-clause-order : goal.returns-then-rest-gt0-clause-order
returns-then-rest-gt0-clause-order c =
    let s = c.args.first.now in
    let t = c.args.second.now in
    let whole = length s / 8 in
    let rest = length s % 8 in
    let all : 8 * whole + rest ≡ length s = omega arith in
    let end : c.loop-k.k ≡ whole = omega arith in
    c.order_of_item.ensures.order
    ∙ sym (order_last s t (8 * whole) rest (length s) all)
    ∙ ap (λ k. left s t (8 * k) (length s)) (sym end)
    ∙ sym c.loop-k.invariant

pub returns-clause-order : goal.returns-clause-order
returns-clause-order c =
    sym (c.loop-k.invariant ∙ order_end _ _ (8 * c.loop-k.k) (length c.args.first.now) (omega arith))
