-- Whether every CPU is finished.
use Rattle.std.proofs.Common.{◌≡◌, ◌∙◌, ap, refl, ℕ, zero, suc, ◌+◌, ◌<◌, true, false, Bool, ◌&&◌, List}
use Rattle.std.proofs.Common.{[], ◌∷◌, ◌++◌, map, length, take, arith}
use Rattle.std.specs.List.{list_all, slice_index_or}
use Rattle.std.proofs.lemmas.List.{take_more}
use Rattle.report_text.specs.declared.processors.Processor.{Processor}
use Rattle.report_text.specs.Shown.{ShownCpu, shown_cpu}
use Rattle.std.proofs.lemmas.Bool.{and_right}

abbrev pub all_finished : List Processor → Bool
all_finished cpus = list_all (λ (c : ShownCpu). c.finished) (map shown_cpu cpus)

pub both_finished : (a b c : Bool) → (b ≡ true → c ≡ true) → (a && b) ≡ true → (a && c) ≡ true
both_finished true b c rest all = rest all
both_finished false b c rest all = all

finished_push : (cpus : List Processor) (p : Processor) → p.finished ≡ true → all_finished cpus ≡ true
    → all_finished (cpus ++ p ∷ []) ≡ true
finished_push [] p is all = rw is refl
finished_push (c ∷ cpus) p is all = both_finished c.finished _ _ (finished_push cpus p is) all

pub finished_more : (cpus : List Processor) (k : ℕ) (p : Processor) → k < length cpus
    → slice_index_or cpus k p ≡ p → p.finished ≡ true → all_finished (take k cpus) ≡ true
    → all_finished (take (k + 1) cpus) ≡ true
finished_more cpus k p lt at is all =
    ap all_finished (take_more cpus k p lt ∙ ap (λ y. take k cpus ++ y ∷ []) at)
    ∙ finished_push (take k cpus) p is all

pub unfinished : (cpus : List Processor) (k : ℕ) (p : Processor) → k < length cpus
    → slice_index_or cpus k p ≡ p → p.finished ≡ false → all_finished cpus ≡ false
unfinished [] k p lt at is = absurd (omega arith)
unfinished (c ∷ cpus) zero p lt at is = rw (ap (λ (x : Processor). x.finished) at ∙ is) refl
unfinished (c ∷ cpus) (suc k) p lt at is = and_right c.finished _ (unfinished cpus k p (omega arith) at is)
