-- Lines of text of lines of storage, one line more; sums over lines.
use Rattle.std.proofs.Common.{◌≡◌, ◌∙◌, ap, ℕ, ◌+◌, ◌<◌, List, [], ◌∷◌, ◌++◌, length, take, sum_by, arith}
use Rattle.std.specs.List.{enumerate_from, flat_map, slice_index_or}
use Rattle.std.proofs.lemmas.List.{take_more, length-take-le, append-nil}
use Rattle.std.proofs.lemmas.List.Sums.{sum_by_push}
use Rattle.std.proofs.lemmas.Grind.{flat_map-append}
use Rattle.tx_heat.specs.Text.{line_text_where, lines_text}
use Rattle.tx_heat.specs.declared.counting.LineHeat.{LineHeat}
use Rattle.report_text.proofs.Numbered.{enumerate_more}

text_more : (xs : List LineHeat) (x : LineHeat)
    → lines_text (xs ++ x ∷ []) ≡ lines_text xs ++ line_text_where (length xs) x
text_more xs x =
    ap (λ numbered. flat_map (λ p. line_text_where p.0 p.1) numbered) (enumerate_more 0 xs x)
    ∙ flat_map-append (λ p. line_text_where p.0 p.1) (enumerate_from 0 xs) ((0 + length xs, x) ∷ [])
    ∙ ap (λ last. lines_text xs ++ last)
    (append-nil (line_text_where (0 + length xs) x) ∙ ap (λ m. line_text_where m x) (omega arith))

pub lines_more : (lines : List LineHeat) (k : ℕ) (h : LineHeat) → k < length lines → slice_index_or lines k h ≡ h
    → lines_text (take (k + 1) lines) ≡ lines_text (take k lines) ++ line_text_where k h
lines_more lines k h lt at =
    let next : take (k + 1) lines ≡ take k lines ++ h ∷ [] =
    take_more lines k h lt ∙ ap (λ y. take k lines ++ y ∷ []) at in
    let size : length (take k lines) ≡ k = length-take-le k lines (omega arith) in
    ap lines_text next ∙ text_more (take k lines) h
    ∙ ap (λ m. lines_text (take k lines) ++ line_text_where m h) size

pub sum_more : (count : LineHeat → ℕ) (lines : List LineHeat) (k : ℕ) (h : LineHeat) → k < length lines
    → slice_index_or lines k h ≡ h
    → sum_by count (take (k + 1) lines) ≡ sum_by count (take k lines) + count h
sum_more count lines k h lt at =
    ap (sum_by count) (take_more lines k h lt ∙ ap (λ y. take k lines ++ y ∷ []) at)
    ∙ sum_by_push count (take k lines) h
