-- The words and the CPUs that a step changes, one after the other.
use Rattle.std.proofs.Common.{◌≡◌, ℕ, List, sym, ap, ◌∙◌}
use Rattle.std.specs.Prelude.{slice_set}
use Rattle.step_changes.specs.Changes.{Leads, redo, undo}
use Rattle.step_changes.specs.Parts.{put_part}
use Rattle.step_changes.specs.Seen.{CpuSeen, Sight}
use Rattle.step_changes.specs.Steps.{forward_by, back_by}
use Rattle.step_changes.specs.declared.view.Step.{Step}

abbrev sight : List CpuSeen → List (List ℕ) → ℕ → Sight
sight cpus words entries = record { cpus = cpus; words = words; entries = entries }

module _ (step : Step) (old middle new : Sight) (cpus : List CpuSeen) (words : List (List ℕ))
    (middle_is : middle ≡ record old { words = words }) (new_is : new ≡ record middle { cpus = cpus })
    (words_lead : Leads slice_set old.words step.words.items middle.words)
    (cpus_lead : Leads put_part middle.cpus step.parts.items new.cpus) where
  same_cpus : middle.cpus ≡ old.cpus
  same_cpus = ap (λ (v : Sight). v.cpus) middle_is

  same_words : new.words ≡ middle.words
  same_words = ap (λ (v : Sight). v.words) new_is

  pub leads_forward : forward_by step old ≡ record new { entries = step.after }
  leads_forward =
      ap (λ l. sight (redo put_part step.parts.items l) (redo slice_set step.words.items old.words) step.after)
      (sym same_cpus)
      ∙ ap (λ l. sight l (redo slice_set step.words.items old.words) step.after) cpus_lead.forward
      ∙ ap (λ l. sight new.cpus l step.after) (words_lead.forward ∙ sym same_words)

  pub leads_back : step.before ≡ old.entries → back_by step new ≡ old
  leads_back before =
      ap (λ l. sight l (undo slice_set step.words.items new.words) step.before) (cpus_lead.back ∙ same_cpus)
      ∙ ap (λ l. sight old.cpus (undo slice_set step.words.items l) step.before) same_words
      ∙ ap (λ l. sight old.cpus l step.before) words_lead.back
      ∙ ap (sight old.cpus old.words) before
