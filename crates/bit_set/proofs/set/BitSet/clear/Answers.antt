use Rattle.std.proofs.Common.{◌≡◌, replicate, ◌*◌, false, length, ap, ◌∙◌, arith}
use Rattle.std.proofs.lemmas.List.{length-replicate, with_items_is}
use Rattle.bit_set.specs.Bits.{bits_of}
use Rattle.bit_set.proofs.Marks.{length-bits_of, bits_of-zeros}
use Rattle.bit_set.proofs.set.BitSet.clear.Goals as goal

pub returns : goal.returns
returns c =
    let room = ap length c.self.view_is in
    let number = length c.deref_mut.result.now in
    let size : 64 * number ≡ length c.args.self.now =
    omega (arith, length-bits_of c.self.inside.words.items, ap length c.deref_mut.ensures.value) in
    let same : length c.zero.new.words ≡ c.self.inside.words.len =
    ap length c.zero.ensures ∙ length-replicate number 0 ∙ c.deref_mut.ensures.len in
    ap bits_of (with_items_is c.self.inside.words c.zero.new.words same ∙ c.zero.ensures)
    ∙ bits_of-zeros number ∙ ap (λ n. replicate n false) size
