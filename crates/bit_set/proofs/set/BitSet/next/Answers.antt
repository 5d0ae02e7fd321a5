-- What is found in the word of the first number, or behind it.
use Rattle.std.proofs.Common.{◌≤◌, ◌<◌, ◌*◌, ◌+◌, ◌/◌, ◌%◌, ℕ, List, Bool, Option, IfSome, IfNone, length, ◌∙◌}
use Rattle.std.proofs.Common.{sym, ap, subst, arith}
use Rattle.std.proofs.lemmas.List.{get_or_read}
use Rattle.bit_set.specs.Bits.{bit, bits_of, IsLowestBit, IsNext, NoneMarked}
use Rattle.bit_set.proofs.Marks.{length-bits_of, next_found, next_none, none_in_word, found_behind, none_behind}
use Rattle.bit_set.proofs.set.BitSet.next.Goals as goal

nothing-before : (marks : List Bool) (from : ℕ) → NoneMarked marks from (from / 64 * 64 + from % 64)
nothing-before marks from = λ k le lt. absurd (omega arith)

pub index-requires : goal.index-requires
index-requires c =
    let room = ap length c.self.view_is in
    omega (arith, length-bits_of c.self.inside.words.items, c.if-end-from.false, c.requires)

pub returns-in-Some-clause-found : goal.returns-in-Some-clause-found
returns-in-Some-clause-found c =
    let words = c.self.inside.words.items in
    let room = ap length c.self.view_is in
    let within : c.args.from / 64 < length words =
    omega (arith, length-bits_of words, c.if-end-from.false, c.requires) in
    let start : c.args.from ≤ c.args.from / 64 * 64 + c.args.from % 64 = omega arith in
    let read = get_or_read words (c.args.from / 64) c.index.result.now within c.index.ensures 0 in
    let lowest = subst (λ w. IsLowestBit w (c.args.from % 64) c.in-Some.bit) read c.in-Some.ensures.found in
    subst (λ marks. IfSome c.below.result (λ at. IsNext marks c.args.from c.args.end at)) c.self.view_is
    (subst (λ (o : Option ℕ). IfSome o (λ at. IsNext (bits_of words) c.args.from c.args.end at))
    (sym c.below.ensures)
    (next_found words c.args.from (c.args.from / 64) (c.args.from % 64) c.in-Some.bit c.args.end
    within start (nothing-before (bits_of words) c.args.from) lowest))

pub returns-in-Some-clause-none : goal.returns-in-Some-clause-none
returns-in-Some-clause-none c =
    let words = c.self.inside.words.items in
    let room = ap length c.self.view_is in
    let within : c.args.from / 64 < length words =
    omega (arith, length-bits_of words, c.if-end-from.false, c.requires) in
    let read = get_or_read words (c.args.from / 64) c.index.result.now within c.index.ensures 0 in
    let lowest = subst (λ w. IsLowestBit w (c.args.from % 64) c.in-Some.bit) read c.in-Some.ensures.found in
    subst (λ marks. IfNone c.below.result (NoneMarked marks c.args.from c.args.end)) c.self.view_is
    (subst (λ (o : Option ℕ). IfNone o (NoneMarked (bits_of words) c.args.from c.args.end))
    (sym c.below.ensures)
    (next_none words c.args.from (c.args.from / 64) (c.args.from % 64) c.in-Some.bit c.args.end
    within (nothing-before (bits_of words) c.args.from) lowest))

-- no number in the rest of that word
passed : (c : goal.After-next_from_word) → NoneMarked c.args.self.now c.args.from (64 * (c.args.from / 64 + 1))
passed c =
    let words = c.self.inside.words.items in
    let room = ap length c.self.view_is in
    let within : c.args.from / 64 < length words =
    omega (arith, length-bits_of words, c.if-end-from.false, c.requires) in
    let read = get_or_read words (c.args.from / 64) c.index.result.now within c.index.ensures 0 in
    let rest =
    none_in_word words c.args.from (c.args.from / 64) (c.args.from % 64) within
    (nothing-before (bits_of words) c.args.from)
    (λ i le lt. ap (λ w. bit w i) (sym read) ∙ c.in-None.ensures.none i le lt) in
    subst (λ marks. NoneMarked marks c.args.from (64 * (c.args.from / 64 + 1))) c.self.view_is
    (λ k le lt. rest k le (omega (arith, lt)))

pub returns-in-None-clause-found : goal.returns-in-None-clause-found
returns-in-None-clause-found c =
    found_behind c.args.self.now c.args.from (64 * (c.args.from / 64 + 1)) c.args.end c.next_from_word.result
    (omega arith) (passed c) c.next_from_word.ensures.found

pub returns-in-None-clause-none : goal.returns-in-None-clause-none
returns-in-None-clause-none c =
    none_behind c.args.self.now c.args.from (64 * (c.args.from / 64 + 1)) c.args.end c.next_from_word.result
    (passed c) c.next_from_word.ensures.none
