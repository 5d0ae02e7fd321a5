use Rattle.bit_set.proofs.Counts.{count_or}
use Rattle.line_table.specs.Sizes.{storage_lines}
use Rattle.tx_footprint.proofs.laws.counts_a_line_once.Goals as goal

pub returns-clause-at_most : goal.returns-clause-at_most
returns-clause-at_most c = λ sets. count_or storage_lines sets.fetched sets.stored
