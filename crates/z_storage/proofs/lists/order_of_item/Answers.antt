use Rattle.std.proofs.Common.{◌∙◌, arith}
use Rattle.z_storage.proofs.Order.{order_of_equal, order_of_words}
use Rattle.z_storage.proofs.lists.order_of_item.Goals as goal

pub returns-clause-order : goal.returns-clause-order
returns-clause-order c =
    c.compare.ensures.value
    ∙ order_of_words c.args.count c.number_in-a.result c.number_in-b.result _ _ c.number_in-a.ensures.bytes c.number_in-b.ensures.bytes
    c.number_in-a.ensures.value c.number_in-b.ensures.value

pub returns-then-a-b-clause-order : goal.returns-then-a-b-clause-order
returns-then-a-b-clause-order c =
    order_of_equal c.args.count c.number_in-a.result c.number_in-b.result _ _ c.number_in-a.ensures.bytes
    c.number_in-b.ensures.bytes c.number_in-a.ensures.value c.number_in-b.ensures.value
    (omega (arith, c.if-a-b.true))
