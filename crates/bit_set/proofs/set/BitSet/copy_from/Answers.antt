use Rattle.std.proofs.Common.{length, ap, arith}
use Rattle.bit_set.proofs.Marks.{length-bits_of}
use Rattle.bit_set.proofs.set.BitSet.copy_from.Goals as goal

pub copy_from_slice-requires : goal.copy_from_slice-requires
copy_from_slice-requires c =
    let mine = ap length c.self.view_is in
    let others = ap length c.other.view_is in
    omega (arith, length-bits_of c.self.inside.words.items, length-bits_of c.other.inside.words.items)
