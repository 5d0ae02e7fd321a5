-- Conflicts by line as text.
use Rattle.std.specs.Prelude.{ℕ, ◌+◌, ◌*◌, nat_lt, if◌then◌else◌, List, [], ◌++◌, codes, sum_by}
use Rattle.std.specs.List.{enumerate_from, flat_map}
use Rattle.report_text.specs.Digits.{labelled, number_line, word_text}
use Rattle.tx_heat.specs.declared.counting.LineHeat.{LineHeat}
use Rattle.tx_heat.specs.Heats.{Heated}

-- the end of a line of text: all conflicts, those of either kind, and those with octowords that lie apart
unfoldable pub counts_text : ℕ → ℕ → ℕ → List ℕ
counts_text rejects aborts disjoint =
    labelled (codes " CONFLICTS ") (rejects + aborts) ++ (labelled (codes " REJECTS ") rejects
    ++ (labelled (codes " ABORTS ") aborts ++ (labelled (codes " FALSE ") disjoint ++ codes "\n")))

-- a line of storage, by the address of its first byte
unfoldable pub line_text : ℕ → LineHeat → List ℕ
line_text line h = codes "LINE " ++ (word_text (256 * line) ++ counts_text h.rejects h.aborts h.disjoint)

-- nothing of a line without conflicts
abbrev pub line_text_where : ℕ → LineHeat → List ℕ
line_text_where line h = if nat_lt 0 (h.rejects + h.aborts) then line_text line h else []

-- in rising order
abbrev pub lines_text : List LineHeat → List ℕ
lines_text lines = flat_map (λ numbered. line_text_where numbered.0 numbered.1) (enumerate_from 0 lines)

unfoldable pub total_text : List LineHeat → List ℕ
total_text lines =
    codes "TOTAL" ++ counts_text (sum_by (λ (h : LineHeat). h.rejects) lines)
    (sum_by (λ (h : LineHeat). h.aborts) lines) (sum_by (λ (h : LineHeat). h.disjoint) lines)

-- 0 where every CPU is finished, else 6
abbrev pub status_of : Heated → ℕ
status_of h = if h.finished then 0 else 6

unfoldable pub end_text : Heated → List ℕ
end_text h = number_line (codes "STATUS ") (status_of h) ++ codes "END\n"

-- the whole text
unfoldable pub heat_text : Heated → List ℕ
heat_text h = codes "HEAT\n" ++ (lines_text h.lines ++ (total_text h.lines ++ end_text h))
