use Rattle.std.proofs.Common.{◌*◌}
use Rattle.bit_set.specs.Bits.{bits_of, NoneMarked}
use Rattle.bit_set.proofs.set.next_in.Given as goal

abbrev pub invariant-words : goal.invariant-words
invariant-words l = NoneMarked (bits_of l.words) (64 * l.first) (64 * l.at)
