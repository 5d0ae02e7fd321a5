-- One word has a run more.
use Rattle.std.proofs.Common.{◌<◌, ◌/◌, ◌%◌, ◌*◌, ◌-◌, false, get_or, set, length, ap, ◌∙◌, arith, subst, sym, min}
use Rattle.std.specs.Prelude.{◌||◌}
use Rattle.std.proofs.lemmas.List.{get_or_read, length-set}
use Rattle.bit_set.specs.Bits.{bit, lies_in}
use Rattle.bit_set.specs.Used.{IsKept}
use Rattle.bit_set.proofs.Marks.{length-bits_of}
use Rattle.bit_set.proofs.Used.{kept_with}
use Rattle.bit_set.proofs.Runs.{run_in_word}
use Rattle.bit_set.proofs.set.BitSet.insert_in_word.Goals as goal

pub index_mut-word-requires : goal.index_mut-word-requires
index_mut-word-requires c =
    let room = ap length c.self.view_is in
    omega (arith, c.requires.some, c.requires.within, length-bits_of c.self.inside.words.items)

pub invariant_of-self : goal.invariant_of-self
invariant_of-self c =
    let room = ap length c.self.view_is in
    let within : c.args.from / 64 < length c.self.inside.words.items =
    omega (arith, c.requires.some, c.requires.within, length-bits_of c.self.inside.words.items) in
    let kept =
    kept_with c.self.inside.words.items c.with_run.result (c.args.from / 64) c.self.inside.low c.self.inside.high
    (omega arith) within c.self.invariant in
    subst (λ low. IsKept (set c.self.inside.words.items (c.args.from / 64) c.with_run.result) low
    c.max-self-inside.result) (sym c.min-self-inside.ensures)
    (subst (λ high. IsKept (set c.self.inside.words.items (c.args.from / 64) c.with_run.result)
    (min c.self.inside.low (c.args.from / 64)) high) (sym c.max-self-inside.ensures) kept)

pub returns-clause-size : goal.returns-clause-size
returns-clause-size c =
    length-bits_of (set c.self.inside.words.items (c.args.from / 64) c.with_run.result)
    ∙ ap (λ n. 64 * n) (length-set c.self.inside.words.items (c.args.from / 64) c.with_run.result)
    ∙ sym (length-bits_of c.self.inside.words.items) ∙ ap length c.self.view_is

pub returns-clause-marks : goal.returns-clause-marks
returns-clause-marks c = λ k.
    let room = ap length c.self.view_is in
    let within : c.args.from / 64 < length c.self.inside.words.items =
    omega (arith, c.requires.some, c.requires.within, length-bits_of c.self.inside.words.items) in
    let was =
    get_or_read c.self.inside.words.items (c.args.from / 64) c.index_mut-word.result.now within
    c.index_mut-word.ensures.value 0 in
    run_in_word c.self.inside.words.items c.with_run.result c.args.from c.args.end c.requires.some
    c.requires.word (omega (arith, c.requires.within, length-bits_of c.self.inside.words.items))
    (λ i lt. c.with_run.ensures i lt
    ∙ ap (λ w. bit w i || lies_in (c.args.from % 64) (c.args.end - c.args.from / 64 * 64) i) was) k
    ∙ ap (λ marks. get_or marks k false || lies_in c.args.from c.args.end k) c.self.view_is
