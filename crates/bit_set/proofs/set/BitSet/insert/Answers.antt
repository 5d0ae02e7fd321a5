use Rattle.std.proofs.Common.{◌<◌, ◌/◌, set, ◌*◌, true, length, ap, ◌∙◌, arith, subst, sym, min}
use Rattle.std.proofs.lemmas.List.{get_or_read}
use Rattle.bit_set.specs.Bits.{bit}
use Rattle.bit_set.specs.Used.{IsKept}
use Rattle.bit_set.proofs.Marks.{length-bits_of, bits_of-set}
use Rattle.bit_set.proofs.Used.{kept_with}
use Rattle.bit_set.proofs.set.BitSet.insert.Goals as goal

pub index_mut-word-requires : goal.index_mut-word-requires
index_mut-word-requires c =
    let room = ap length c.self.view_is in
    omega (arith, length-bits_of c.self.inside.words.items)

pub invariant_of-self : goal.invariant_of-self
invariant_of-self c =
    let room = ap length c.self.view_is in
    let within : c.args.at / 64 < length c.self.inside.words.items =
    omega (arith, c.requires, length-bits_of c.self.inside.words.items) in
    let kept =
    kept_with c.self.inside.words.items c.with_bit.result (c.args.at / 64) c.self.inside.low c.self.inside.high
    (omega arith) within c.self.invariant in
    subst (λ low. IsKept (set c.self.inside.words.items (c.args.at / 64) c.with_bit.result) low
    c.max-self-inside.result) (sym c.min-self-inside.ensures)
    (subst (λ high. IsKept (set c.self.inside.words.items (c.args.at / 64) c.with_bit.result)
    (min c.self.inside.low (c.args.at / 64)) high) (sym c.max-self-inside.ensures) kept)

pub returns : goal.returns
returns c =
    let room = ap length c.self.view_is in
    let within : c.args.at < 64 * length c.self.inside.words.items =
    omega (arith, length-bits_of c.self.inside.words.items) in
    let word : c.args.at / 64 < length c.self.inside.words.items = omega arith in
    let was =
    get_or_read c.self.inside.words.items (c.args.at / 64) c.index_mut-word.result.now word
    c.index_mut-word.ensures.value 0 in
    bits_of-set c.self.inside.words.items c.with_bit.result c.args.at true within c.with_bit.ensures.set
    (λ i lt ne. c.with_bit.ensures.others i lt ne ∙ ap (λ w. bit w i) was)
    ∙ ap (λ marks. set marks c.args.at true) c.self.view_is
