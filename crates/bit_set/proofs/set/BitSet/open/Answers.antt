use Rattle.std.proofs.Common.{ap, ◌∙◌}
use Rattle.bit_set.specs.Bits.{bits_of}
use Rattle.bit_set.proofs.Marks.{bits_of-zeros}
use Rattle.bit_set.proofs.set.BitSet.open.Goals as goal

pub returns : goal.returns
returns c = ap bits_of (c.in_ok-vec.ensures.items_if_clones_equal (λ y e. e)) ∙ bits_of-zeros c.args.words
