use Rattle.std.proofs.Common.{◌<◌, ◌/◌, ◌%◌, set, ◌*◌, false, length, ap, sym, ◌∙◌, arith}
use Rattle.std.proofs.lemmas.List.{get_or_read}
use Rattle.bit_set.specs.Bits.{bit}
use Rattle.bit_set.proofs.Marks.{length-bits_of, bits_of-set}
use Rattle.std.proofs.lemmas.Bool.{cases_eq}
use borrow.Enum.Arm.{by_way}
use Rattle.bit_set.proofs.Words.{bit_of_zero, same_word}
use Rattle.std.proofs.lemmas.Nat.Bits.{bit_at-zero}
use Rattle.bit_set.proofs.Used.{kept_without}
use Rattle.bit_set.proofs.set.BitSet.remove.Goals as goal

pub index_mut-word-requires : goal.index_mut-word-requires
index_mut-word-requires c =
    let room = ap length c.self.view_is in
    omega (arith, length-bits_of c.self.inside.words.items)

pub invariant_of-self : goal.invariant_of-self
invariant_of-self c =
    let room = ap length c.self.view_is in
    let within : c.args.at / 64 < length c.self.inside.words.items =
    omega (arith, c.requires, length-bits_of c.self.inside.words.items) in
    let was =
    get_or_read c.self.inside.words.items (c.args.at / 64) c.index_mut-word.result.now within
    c.index_mut-word.ensures.value 0 in
    kept_without c.self.inside.words.items c.without_bit.result (c.args.at / 64) c.self.inside.low
    c.self.inside.high (omega arith) within
    (λ zero. same_word c.without_bit.result 0 (omega arith) (omega arith)
    (λ i lt. by_way (cases_eq i (c.args.at % 64))
    (λ e. ap (bit c.without_bit.result) e ∙ c.without_bit.ensures.cleared ∙ sym (bit_of_zero 0 i (bit_at-zero i)))
    (λ ne. c.without_bit.ensures.others i lt ne ∙ ap (λ w. bit w i) (was ∙ zero))))
    c.self.invariant

pub returns : goal.returns
returns c =
    let room = ap length c.self.view_is in
    let within : c.args.at < 64 * length c.self.inside.words.items =
    omega (arith, length-bits_of c.self.inside.words.items) in
    let word : c.args.at / 64 < length c.self.inside.words.items = omega arith in
    let was =
    get_or_read c.self.inside.words.items (c.args.at / 64) c.index_mut-word.result.now word
    c.index_mut-word.ensures.value 0 in
    bits_of-set c.self.inside.words.items c.without_bit.result c.args.at false within
    c.without_bit.ensures.cleared (λ i lt ne. c.without_bit.ensures.others i lt ne
    ∙ ap (λ w. bit w i) was)
    ∙ ap (λ marks. set marks c.args.at false) c.self.view_is
