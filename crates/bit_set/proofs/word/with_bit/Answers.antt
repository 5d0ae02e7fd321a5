use Rattle.std.proofs.Common.{w64}
use Rattle.std.proofs.lemmas.Nat.Bits.{bit_at_set_same, bit_at_set_other}
use Rattle.bit_set.proofs.Words.{bit_of_one, bit_alike}
use Rattle.bit_set.proofs.word.with_bit.Goals as goal

pub returns : goal.returns
returns c = record {
  set = bit_of_one _ _ (bit_at_set_same w64 _ _ c.requires);
  others = λ i within ne. bit_alike _ _ i (bit_at_set_other w64 _ _ c.requires i ne);
}
