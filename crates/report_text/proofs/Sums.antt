-- Sums over CPUs, one CPU more.
use Rattle.std.proofs.Common.{◌≡◌, ◌∙◌, ap, ℕ, ◌+◌, ◌<◌, [], ◌∷◌, ◌++◌, List, map, length, take, sum_by}
use Rattle.std.proofs.Common.{arith}
use Rattle.std.specs.List.{slice_index_or}
use Rattle.std.proofs.lemmas.List.{take_more, map-append}
use Rattle.std.proofs.lemmas.List.Sums.{sum_by-append}
use Rattle.report_text.specs.declared.processors.Processor.{Processor}
use Rattle.report_text.specs.Shown.{ShownCpu, shown_cpu}

pub sum_more : (count : ShownCpu → ℕ) (cpus : List Processor) (k : ℕ) (p : Processor) → k < length cpus
    → slice_index_or cpus k p ≡ p
    → sum_by count (map shown_cpu (take (k + 1) cpus))
    ≡ sum_by count (map shown_cpu (take k cpus)) + count (shown_cpu p)
sum_more count cpus k p lt at =
    ap (λ xs. sum_by count (map shown_cpu xs)) (take_more cpus k p lt ∙ ap (λ y. take k cpus ++ y ∷ []) at)
    ∙ ap (sum_by count) (map-append shown_cpu (take k cpus) (p ∷ []))
    ∙ sum_by-append count (map shown_cpu (take k cpus)) (shown_cpu p ∷ []) ∙ omega arith
