-- The lines of CPUs with their numbers, one CPU more.
use Rattle.std.proofs.Common.{◌≡◌, ◌∙◌, ap, refl, ℕ, zero, suc, ◌+◌, ◌<◌, List, [], ◌∷◌, ◌++◌, map, length, take, arith}
use Rattle.std.proofs.Common.{Bool, true, false}
use Rattle.std.specs.List.{slice_index_or, list_all}
use Rattle.report_text.specs.Shown.{ShownCpu}
use Rattle.std.proofs.lemmas.List.{take_more, map-append, length-map, length-take-le}
use Rattle.report_text.specs.Processor.{cpu_lines, cpus_text}
use Rattle.report_text.proofs.Numbered.{text_more}
use Rattle.tx_check.specs.declared.writing.Seen.{Seen}
use Rattle.tx_check.specs.Seen.{shown_seen}
use Rattle.report_text.proofs.Finished.{both_finished}
use Rattle.std.proofs.lemmas.Bool.{and_right}

pub cpus_more : (cpus : List Seen) (k : ℕ) (p : Seen) → k < length cpus → slice_index_or cpus k p ≡ p
    → cpus_text (map shown_seen (take (k + 1) cpus))
    ≡ cpus_text (map shown_seen (take k cpus)) ++ cpu_lines k (shown_seen p)
cpus_more cpus k p lt at =
    let next : take (k + 1) cpus ≡ take k cpus ++ p ∷ [] =
    take_more cpus k p lt ∙ ap (λ y. take k cpus ++ y ∷ []) at in
    let mapped : map shown_seen (take (k + 1) cpus) ≡ map shown_seen (take k cpus) ++ shown_seen p ∷ [] =
    ap (map shown_seen) next ∙ map-append shown_seen (take k cpus) (p ∷ []) in
    let size : length (map shown_seen (take k cpus)) ≡ k =
    length-map (take k cpus) shown_seen ∙ length-take-le k cpus (omega arith) in
    ap cpus_text mapped ∙ text_more (map shown_seen (take k cpus)) (shown_seen p)
    ∙ ap (λ m. cpus_text (map shown_seen (take k cpus)) ++ cpu_lines m (shown_seen p)) size

-- ---- whether every CPU is finished

abbrev pub all_finished : List Seen → Bool
all_finished cpus = list_all (λ (c : ShownCpu). c.finished) (map shown_seen cpus)

finished_push : (cpus : List Seen) (p : Seen) → p.finished ≡ true → all_finished cpus ≡ true
    → all_finished (cpus ++ p ∷ []) ≡ true
finished_push [] p is all = rw is refl
finished_push (c ∷ cpus) p is all = both_finished c.finished _ _ (finished_push cpus p is) all

pub finished_more : (cpus : List Seen) (k : ℕ) (p : Seen) → k < length cpus
    → slice_index_or cpus k p ≡ p → p.finished ≡ true → all_finished (take k cpus) ≡ true
    → all_finished (take (k + 1) cpus) ≡ true
finished_more cpus k p lt at is all =
    ap all_finished (take_more cpus k p lt ∙ ap (λ y. take k cpus ++ y ∷ []) at)
    ∙ finished_push (take k cpus) p is all

pub unfinished : (cpus : List Seen) (k : ℕ) (p : Seen) → k < length cpus → slice_index_or cpus k p ≡ p
    → p.finished ≡ false → all_finished cpus ≡ false
unfinished [] k p lt at is = absurd (omega arith)
unfinished (c ∷ cpus) zero p lt at is = rw (ap (λ (x : Seen). x.finished) at ∙ is) refl
unfinished (c ∷ cpus) (suc k) p lt at is = and_right c.finished _ (unfinished cpus k p (omega arith) at is)
