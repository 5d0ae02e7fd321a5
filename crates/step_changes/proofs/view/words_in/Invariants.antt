-- So many words are seen.
use Rattle.std.proofs.Common.{◌≡◌, map}
use Rattle.std.specs.List.{range_with_len}
use Rattle.step_changes.specs.Seen.{word_at}
use Rattle.step_changes.proofs.view.words_in.Given as goal

abbrev pub invariant-loop-word : goal.invariant-loop-word
invariant-loop-word g l =
    l.words.items
    ≡ map (word_at (g.S.Shows.shown l.machine).bytes) (range_with_len 0 l.word)
