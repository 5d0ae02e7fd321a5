-- A run lies in one word.
use Rattle.std.proofs.Common.{◌<◌, ◌/◌, ◌*◌, ◌%◌, ◌-◌, ◌≡◌, ℕ, false, get_or, length, ap, ◌∙◌, arith, sym}
use Rattle.std.specs.Prelude.{◌||◌}
use Rattle.std.proofs.lemmas.List.{get_or_read}
use Rattle.std.proofs.lemmas.Bool.Decides.{Decides-eqb}
use Rattle.bit_set.specs.Bits.{bit, bits_of, lies_in}
use Rattle.bit_set.proofs.Marks.{length-bits_of}
use Rattle.bit_set.proofs.Runs.{run_is_there}
use Rattle.bit_set.proofs.set.BitSet.has_in_word.Goals as goal

pub index-word-requires : goal.index-word-requires
index-word-requires c =
    let room = ap length c.self.view_is in
    omega (arith, c.requires.some, c.requires.within, length-bits_of c.self.inside.words.items)

pub returns : goal.returns
returns c =
    let words = c.self.inside.words.items in
    let room = ap length c.self.view_is in
    let within : c.args.from / 64 < length words =
    omega (arith, c.requires.some, c.requires.within, length-bits_of words) in
    let was = get_or_read words (c.args.from / 64) c.index-word.result.now within c.index-word.ensures 0 in
    let there =
    run_is_there words c.with_run.result c.args.from c.args.end c.requires.some c.requires.word
    (omega (arith, c.requires.within, length-bits_of words)) c.with_run.type_inv
    (c.self.invariant.fits (c.args.from / 64) 0 within)
    (λ i lt. c.with_run.ensures i lt
    ∙ ap (λ w. bit w i || lies_in (c.args.from % 64) (c.args.end - c.args.from / 64 * 64) i) was) in
    let marked : (k : ℕ) → get_or (bits_of words) k false ≡ get_or c.args.self.now k false =
    λ k. ap (λ marks. get_or marks k false) c.self.view_is in (
      λ yes. λ k le lt. sym (marked k)
          ∙ there.0 ((Decides-eqb c.with_run.result c.index-word.result.now).0 yes ∙ was) k le lt,
      λ all. (Decides-eqb c.with_run.result c.index-word.result.now).1
          (there.1 (λ k le lt. marked k ∙ all k le lt) ∙ sym was),
    )
