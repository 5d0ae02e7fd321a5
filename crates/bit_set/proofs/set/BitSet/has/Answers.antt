use Rattle.std.proofs.Common.{◌<◌, ◌/◌, ◌%◌, ◌*◌, false, length, get_or, ap, ◌∙◌, sym, arith}
use Rattle.std.proofs.lemmas.List.{get_or_read}
use Rattle.bit_set.specs.Bits.{bit}
use Rattle.bit_set.proofs.Marks.{length-bits_of, get_or-bits_of}
use Rattle.bit_set.proofs.set.BitSet.has.Goals as goal

pub index-requires : goal.index-requires
index-requires c =
    let room = ap length c.self.view_is in
    omega (arith, length-bits_of c.self.inside.words.items)

pub returns : goal.returns
returns c =
    let room = ap length c.self.view_is in
    let within : c.args.at < 64 * length c.self.inside.words.items =
    omega (arith, length-bits_of c.self.inside.words.items) in
    let word : c.args.at / 64 < length c.self.inside.words.items = omega arith in
    c.has_bit.ensures
    ∙ ap (λ w. bit w (c.args.at % 64))
    (get_or_read c.self.inside.words.items (c.args.at / 64) c.index.result.now word c.index.ensures 0)
    ∙ sym (get_or-bits_of c.self.inside.words.items c.args.at false within)
    ∙ ap (λ marks. get_or marks c.args.at false) c.self.view_is
