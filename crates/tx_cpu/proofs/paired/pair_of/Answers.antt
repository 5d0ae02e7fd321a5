-- The length of both blocks is in the immediate.
use Rattle.std.proofs.Common.{ap, ◌∙◌}
use Rattle.z_instr.specs.Facts.{has_two_lists}
use Rattle.tx_cpu.proofs.TwoBlocks.{pairs-have-lists}
use Rattle.tx_cpu.proofs.paired.pair_of.Goals as goal

pub size_of-requires : goal.size_of-requires
size_of-requires c =
    c.immediates_are_plain.ensures.lists c.args.instr.now
    (ap has_two_lists c.in_ok-store.ensures.operands ∙ pairs-have-lists c.in_ok-store.store)
