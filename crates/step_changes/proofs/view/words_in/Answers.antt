-- One word more is seen, and at the end all are.
use Rattle.std.proofs.Common.{◌≡◌, ◌∙◌, sym, ap, [], ◌∷◌, ◌++◌, map, arith}
use Rattle.std.specs.List.{range_with_len}
use Rattle.std.proofs.lemmas.List.FromFn.{map-range_with_len_more}
use Rattle.step_changes.specs.Seen.{word_at, words_of}
use Rattle.step_changes.proofs.view.words_in.Goals as goal

pub loop-word-preserved : goal.loop-word-preserved
loop-word-preserved g c =
    let f = word_at (g.S.Shows.shown c.args.machine.now).bytes in
    let n = c.loop-word.word in
    c.in_ok-push.ensures.items
    ∙ ap (λ b. c.loop-word.words.items ++ b ∷ []) c.word_in.ensures
    ∙ ap (λ l. l ++ f n ∷ []) c.loop-word.invariant
    ∙ sym (map-range_with_len_more f 0 n n (omega arith))

pub returns : goal.returns
unfolding words_of
returns g c =
    let f = word_at (g.S.Shows.shown c.args.machine.now).bytes in
    let all : c.loop-word.word ≡ 131072 = omega arith in
    c.loop-word.invariant ∙ ap (λ n. map f (range_with_len 0 n)) all
