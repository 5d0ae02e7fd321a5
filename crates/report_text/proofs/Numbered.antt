-- The lines of CPUs with their numbers, one CPU more.
use Rattle.std.proofs.Common.{◌≡◌, ◌∙◌, ap, ℕ, ◌+◌, ◌<◌, List, [], ◌∷◌, ◌++◌, map, length, take, arith}
use Rattle.std.specs.List.{enumerate_from, flat_map, slice_index_or}
use Rattle.std.proofs.lemmas.List.{take_more, map-append, length-map, length-take-le, append-nil}
use Rattle.std.proofs.lemmas.Grind.{flat_map-append}
use Rattle.report_text.specs.declared.processors.Processor.{Processor}
use Rattle.report_text.specs.Processor.{cpu_lines, cpus_text}
use Rattle.report_text.specs.Shown.{ShownCpu, shown_cpu}

pub enumerate_more : {X : Type 0} (n : ℕ) (xs : List X) (x : X)
    → enumerate_from n (xs ++ x ∷ []) ≡ enumerate_from n xs ++ (n + length xs, x) ∷ []
enumerate_more n [] x = ap (λ m. (m, x) ∷ []) (omega arith)
enumerate_more n (y ∷ xs) x =
    let next : (n + 1) + length xs ≡ n + length (y ∷ xs) = omega arith in
    let last = enumerate_more (n + 1) xs x ∙ ap (λ m. enumerate_from (n + 1) xs ++ (m, x) ∷ []) next in
    ap (λ rest. (n, y) ∷ rest) last

-- a CPU behind the others
pub text_more : (xs : List ShownCpu) (x : ShownCpu)
    → cpus_text (xs ++ x ∷ []) ≡ cpus_text xs ++ cpu_lines (length xs) x
text_more xs x =
    ap (λ numbered. flat_map (λ p. cpu_lines p.0 p.1) numbered) (enumerate_more 0 xs x)
    ∙ flat_map-append (λ p. cpu_lines p.0 p.1) (enumerate_from 0 xs) ((0 + length xs, x) ∷ [])
    ∙ ap (λ last. cpus_text xs ++ last)
    (append-nil (cpu_lines (0 + length xs) x) ∙ ap (λ m. cpu_lines m x) (omega arith))

pub cpus_more : (cpus : List Processor) (k : ℕ) (p : Processor) → k < length cpus
    → slice_index_or cpus k p ≡ p
    → cpus_text (map shown_cpu (take (k + 1) cpus))
    ≡ cpus_text (map shown_cpu (take k cpus)) ++ cpu_lines k (shown_cpu p)
cpus_more cpus k p lt at =
    let next : take (k + 1) cpus ≡ take k cpus ++ p ∷ [] =
    take_more cpus k p lt ∙ ap (λ y. take k cpus ++ y ∷ []) at in
    let mapped : map shown_cpu (take (k + 1) cpus) ≡ map shown_cpu (take k cpus) ++ shown_cpu p ∷ [] =
    ap (map shown_cpu) next ∙ map-append shown_cpu (take k cpus) (p ∷ []) in
    let size : length (map shown_cpu (take k cpus)) ≡ k =
    length-map (take k cpus) shown_cpu ∙ length-take-le k cpus (omega arith) in
    ap cpus_text mapped ∙ text_more (map shown_cpu (take k cpus)) (shown_cpu p)
    ∙ ap (λ m. cpus_text (map shown_cpu (take k cpus)) ++ cpu_lines m (shown_cpu p)) size
