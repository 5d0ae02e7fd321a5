-- One answer is due to a listing whose conflicts are counted.
use Rattle.std.proofs.Common.{ℕ, ◌⊎◌, List, Option, refl, sym, ap, ◌∙◌, inl, inr}
use Rattle.tx_heat.specs.Text.{heat_text}
use Rattle.tx_journal.specs.Content.{Content}
use Rattle.tx_meaning.specs.Schedules.{planned}
use Rattle.run_answers.specs.Report.{status_of}
use Rattle.z_assemble.specs.Whole.{Stands, FirstFault}
use Rattle.z_assemble.specs.Words.{fault_line}
use Rattle.z_assemble.specs.declared.fault.ListingFault.{ListingFault}
use Rattle.z_assemble.proofs.Says.{one_holds, both_fail, same_image}
use Rattle.ztx_answers.specs.Heats.{heat_on, IsHeat, IsDueToHeat}
use Rattle.run_answers.specs.Runs.{running}
use Rattle.ztx_answers.proofs.Heats.{same_status}
use Rattle.ztx_answers.specs.One.{IsSome, IsOnly}
use Rattle.ztx_answers.proofs.Answered.{same_refusal, refusal}

-- ---- only one

-- the status, and the text, of the run of an image
abbrev status_on : ℕ → ℕ → Option ℕ → Content → ℕ
status_on turns tick seed image = let m = running image turns tick in status_of m (planned m seed)

abbrev text_on : ℕ → ℕ → Option ℕ → Content → List ℕ
text_on turns tick seed image = heat_text (heat_on image turns tick seed)

module _ (turns tick : ℕ) (seed : Option ℕ) (input : List ℕ) where
  -- a listing has one heat
  same_heat : IsOnly (IsHeat turns tick seed input)
  same_heat s t xs ys r q =
      let images = same_image input r.image q.image r.stands q.stands in
      record {
        statuses = r.status_is ∙ ap (status_on turns tick seed) images ∙ sym q.status_is;
        texts = r.text_is ∙ ap (text_on turns tick seed) images ∙ sym q.text_is;
      }

  -- one answer is due
  pub one_heat : IsOnly (IsDueToHeat turns tick seed input)
  one_heat s t xs ys (inl r) (inl q) = same_refusal input s t xs ys r q
  one_heat s t xs ys (inl r) (inr q) = absurd (both_fail input q.image r.fault q.stands r.first)
  one_heat s t xs ys (inr r) (inl q) = absurd (both_fail input r.image q.fault r.stands q.first)
  one_heat s t xs ys (inr r) (inr q) = same_heat s t xs ys r q

  -- ---- one there is

  -- a listing has a heat, another text its first fault
  heat_by : ((image : Content) × Stands input image) ⊎ ((f : ListingFault) × FirstFault input f)
      → IsSome (IsDueToHeat turns tick seed input)
  heat_by (inl (image, s)) = record {
    status = status_on turns tick seed image;
    text = text_on turns tick seed image;
    is_due = inr (record {
      image = image;
      stands = s;
      status_is = refl;
      printed_is = let m = running image turns tick in same_status m (planned m seed);
      text_is = refl;
    });
  }
  heat_by (inr (f, first)) = record {
    status = 5;
    text = fault_line f;
    is_due = inl (refusal input f first);
  }

  -- something is due
  pub some_heat : IsSome (IsDueToHeat turns tick seed input)
  some_heat = heat_by (one_holds input)
