use Rattle.std.proofs.Common.{w64}
use Rattle.std.proofs.lemmas.Nat.Bits.{bit_at_clear_same, bit_at_clear_other}
use Rattle.bit_set.proofs.Words.{bit_of_zero, bit_alike}
use Rattle.bit_set.proofs.word.without_bit.Goals as goal

pub returns : goal.returns
returns c = record {
  cleared = bit_of_zero _ _ (bit_at_clear_same w64 _ _ c.requires);
  others = λ i within ne. bit_alike _ _ i (bit_at_clear_other w64 _ _ c.requires i within ne);
}
