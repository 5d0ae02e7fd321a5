-- Numbers in the first bytes of a buffer.
use Rattle.std.proofs.Common.{◌≡◌, ℕ, ◌<◌, ◌*◌, ◌^◌, List, arith}
use Rattle.std.specs.Prelude.{slice_index}
use Rattle.byteorder.specs.Endian.{big_number}
use Rattle.byteorder.specs.Numbers.{big_from-lt}
use Rattle.byteorder.proofs.Bytes.{pow256}

-- what is read of n bytes has no more bits than they
pub number_fits : (x n : ℕ) (buffer : List ℕ) → ((k : ℕ) → slice_index buffer k < 256) →
    x ≡ big_number n buffer → x < 2 ^ (8 * n)
number_fits x n buffer h e = omega (arith, big_from-lt 0 n buffer h, pow256 n)
