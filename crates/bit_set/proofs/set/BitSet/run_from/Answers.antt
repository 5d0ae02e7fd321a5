-- A run of ones in a word is one of members.
use Rattle.std.proofs.Common.{◌≡◌, ◌<◌, ◌+◌, ◌/◌, ◌%◌, ◌*◌, false, length, get_or, ap, ◌∙◌, sym, arith}
use Rattle.std.proofs.lemmas.List.{get_or_read}
use Rattle.bit_set.specs.Bits.{bit}
use Rattle.bit_set.proofs.Marks.{length-bits_of, mark_in_word}
use Rattle.bit_set.proofs.set.BitSet.run_from.Goals as goal

pub index-requires : goal.index-requires
index-requires c =
    let room = ap length c.self.view_is in
    omega (arith, length-bits_of c.self.inside.words.items)

pub returns-clause-run : goal.returns-clause-run
returns-clause-run c k le lt =
    let words = c.self.inside.words.items in
    let room : length c.args.self.now ≡ 64 * length words =
    sym (ap length c.self.view_is) ∙ length-bits_of words in
    let word : c.args.at / 64 < length words = omega (arith, c.requires, room) in
    let read = get_or_read words (c.args.at / 64) c.index.result.now word c.index.ensures 0 in
    let high = c.ones_from.ensures.within in
    sym (ap (λ marks. get_or marks k false) c.self.view_is)
    ∙ mark_in_word words (c.args.at / 64) k word (omega (arith, le, lt, high))
    ∙ ap (λ w. bit w (k % 64)) (sym read)
    ∙ c.ones_from.ensures.ones (k % 64) (omega (arith, le, lt, high)) (omega (arith, le, lt, high))

pub returns-clause-end : goal.returns-clause-end
returns-clause-end c lt =
    let words = c.self.inside.words.items in
    let k = c.args.at + c.ones_from.result in
    let room : length c.args.self.now ≡ 64 * length words =
    sym (ap length c.self.view_is) ∙ length-bits_of words in
    let word : c.args.at / 64 < length words = omega (arith, c.requires, room) in
    let read = get_or_read words (c.args.at / 64) c.index.result.now word c.index.ensures 0 in
    let place : k % 64 ≡ c.args.at % 64 + c.ones_from.result = omega (arith, lt) in
    sym (ap (λ marks. get_or marks k false) c.self.view_is)
    ∙ mark_in_word words (c.args.at / 64) k word (omega (arith, lt))
    ∙ (λ j. bit (sym read j) (place j))
    ∙ c.ones_from.ensures.end lt
