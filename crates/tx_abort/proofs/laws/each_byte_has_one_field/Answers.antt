use Rattle.tx_abort.specs.Block.{fields}
use Rattle.tx_abort.proofs.Writes.{length-block, one_at_most, block_order, block_has, block_zero}
use Rattle.tx_abort.proofs.laws.each_byte_has_one_field.Goals as goal

pub returns-clause-size : goal.returns-clause-size
returns-clause-size c = length-block

pub returns-clause-once : goal.returns-clause-once
returns-clause-once c = λ why nest general at k.
    one_at_most 0 256 k (fields why nest general at) (block_order why nest general at)

pub returns-clause-value : goal.returns-clause-value
returns-clause-value c = block_has

pub returns-clause-zero : goal.returns-clause-zero
returns-clause-zero c = block_zero
