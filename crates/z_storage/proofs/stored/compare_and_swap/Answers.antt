use Rattle.std.proofs.Common.{rules}
use Rattle.z_instr.specs.Operands.{spans_in}
use Rattle.z_storage.proofs.Swaps.{swap_refused}
use Rattle.z_storage.proofs.stored.compare_and_swap.Goals as goal

pub returns-else-operand-second : goal.returns-else-operand-second
unfolding spans_in
returns-else-operand-second g c =
    swap_refused _ _ _ _ _ _ c.first_address-address.result c.operand.result c.fetch_item-second.result
    c.first_address-address.ensures c.operand.ensures.value c.fetch_item-second.ensures.value
    c.if-operand-second.false
    (search rules) (search rules)
