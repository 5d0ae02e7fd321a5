-- One answer is due, and only one.
use Rattle.std.proofs.Common.{ℕ, ◌⊎◌, List, Option, sym, ap, ◌∙◌, inl, inr, refl}
use Rattle.tx_gen.specs.Programs.{listing_of}
use Rattle.tx_journal.specs.Content.{Content}
use Rattle.tx_meaning.specs.Schedules.{planned, round}
use Rattle.run_answers.specs.Report.{report_of, status_of, summary_of}
use Rattle.z_assemble.specs.Whole.{Stands, FirstFault}
use Rattle.z_assemble.specs.Words.{fault_line}
use Rattle.z_assemble.specs.declared.fault.ListingFault.{ListingFault}
use Rattle.z_assemble.proofs.Images.{stands_for_image}
use Rattle.z_assemble.proofs.Says.{one_holds, both_fail, same_image, same_fault}
use Rattle.z_list.specs.Listing.{list_of}
use Rattle.listing_answers.proofs.Listings.{has_image}
use Rattle.listing_answers.specs.Due.{IsRefusal, IsDisassembly, IsGenerated, IsDueToList}
use Rattle.run_answers.specs.Reports.{IsReport, IsSummary, IsDueToRun}
use Rattle.ztx_answers.specs.One.{IsSome, IsOnly}
use Rattle.run_answers.specs.Runs.{AreLimits, running, usual_turns}
use Rattle.run_answers.proofs.Plans.{planned_known}
use Rattle.run_answers.proofs.Printed.{printed}
use Rattle.run_answers.proofs.Serials.{serial_run}
use Rattle.run_answers.proofs.Settings.{may_run}

-- ---- only one

pub same_refusal : (input : List ℕ) → IsOnly (IsRefusal input)
same_refusal input s t xs ys r q =
    let faults = same_fault input r.fault q.fault r.first q.first in
    record {
      statuses = r.status_is ∙ sym q.status_is;
      texts = r.text_is ∙ ap fault_line faults ∙ sym q.text_is;
    }

same_disassembly : (input : List ℕ) → IsOnly (IsDisassembly input)
same_disassembly input s t xs ys r q =
    let images = same_image input r.image q.image r.stands q.stands in
    record {
      statuses = r.status_is ∙ sym q.status_is;
      texts = r.text_is ∙ ap list_of images ∙ sym q.text_is;
    }

abbrev status_on : ℕ → ℕ → Option ℕ → Content → ℕ
status_on turns tick seed image = let m = running image turns tick in status_of m (planned m seed)

abbrev report_on : ℕ → ℕ → Option ℕ → Content → List ℕ
report_on turns tick seed image = let m = running image turns tick in report_of m (planned m seed)

same_report : (turns tick : ℕ) (seed : Option ℕ) (input : List ℕ) → IsOnly (IsReport turns tick seed input)
same_report turns tick seed input s t xs ys r q =
    let images = same_image input r.image q.image r.stands q.stands in
    record {
      statuses = r.status_is ∙ ap (status_on turns tick seed) images ∙ sym q.status_is;
      texts = r.text_is ∙ ap (report_on turns tick seed) images ∙ sym q.text_is;
    }

pub one_list : (input : List ℕ) → IsOnly (IsDueToList input)
one_list input s t xs ys (inl r) (inl q) = same_refusal input s t xs ys r q
one_list input s t xs ys (inl r) (inr q) = absurd (both_fail input q.image r.fault q.stands r.first)
one_list input s t xs ys (inr r) (inl q) = absurd (both_fail input r.image q.fault r.stands q.first)
one_list input s t xs ys (inr r) (inr q) = same_disassembly input s t xs ys r q

pub one_report : (turns tick : ℕ) (seed : Option ℕ) (input : List ℕ)
    → IsOnly (IsDueToRun turns tick seed input)
one_report turns tick seed input s t xs ys (inl r) (inl q) = same_refusal input s t xs ys r q
one_report turns tick seed input s t xs ys (inl r) (inr q) =
    absurd (both_fail input q.image r.fault q.stands r.first)
one_report turns tick seed input s t xs ys (inr r) (inl q) =
    absurd (both_fail input r.image q.fault r.stands q.first)
one_report turns tick seed input s t xs ys (inr r) (inr q) = same_report turns tick seed input s t xs ys r q

abbrev short_status_on : Content → ℕ
short_status_on image = let m = running image usual_turns 0 in status_of m (round m)

abbrev summary_on : ℕ → Content → List ℕ
summary_on number image = let m = running image usual_turns 0 in summary_of number m (round m)

pub one_summary : (number : ℕ) → IsOnly (IsSummary number)
one_summary number s t xs ys r q =
    let images = same_image (listing_of number) r.image q.image r.stands q.stands in
    record {
      statuses = r.status_is ∙ ap short_status_on images ∙ sym q.status_is;
      texts = r.text_is ∙ ap (summary_on number) images ∙ sym q.text_is;
    }

pub one_listing : (number : ℕ) → IsOnly (IsGenerated number)
one_listing number s t xs ys r q = record {
  statuses = r.status_is ∙ sym q.status_is;
  texts = r.text_is ∙ sym q.text_is;
}

-- ---- one there is

pub reports : (turns tick : ℕ) (seed : Option ℕ) → AreLimits turns tick → (input : List ℕ) (image : Content)
    → (s : Stands input image) → IsReport turns tick seed input (status_on turns tick seed image)
    (report_on turns tick seed image)
reports turns tick seed limits input image s =
    let m = running image turns tick in
    let is = stands_for_image input image s in
    record {
      image = image;
      stands = s;
      status_is = refl;
      text_is = refl;
      printed_is = printed m (planned m seed);
      serial = serial_run m (may_run image turns tick is limits) (planned m seed) (planned_known m seed is);
    }

pub refusal : (input : List ℕ) (f : ListingFault) → FirstFault input f → IsRefusal input 5 (fault_line f)
refusal input f first = record { fault = f; first = first; status_is = refl; text_is = refl }

some_list : (input : List ℕ)
    → ((image : Content) × Stands input image) ⊎ ((f : ListingFault) × FirstFault input f)
    → IsSome (IsDueToList input)
some_list input (inl (image, s)) = record {
  status = 0;
  text = list_of image;
  is_due = inr (record { image = image; stands = s; status_is = refl; text_is = refl });
}
some_list input (inr (f, first)) = record {
  status = 5;
  text = fault_line f;
  is_due = inl (refusal input f first);
}

pub listed : (input : List ℕ) → IsSome (IsDueToList input)
listed input = some_list input (one_holds input)

some_report : (turns tick : ℕ) (seed : Option ℕ) → AreLimits turns tick → (input : List ℕ)
    → ((image : Content) × Stands input image) ⊎ ((f : ListingFault) × FirstFault input f)
    → IsSome (IsDueToRun turns tick seed input)
some_report turns tick seed limits input (inl (image, s)) = record {
  status = status_on turns tick seed image;
  text = report_on turns tick seed image;
  is_due = inr (reports turns tick seed limits input image s);
}
some_report turns tick seed limits input (inr (f, first)) = record {
  status = 5;
  text = fault_line f;
  is_due = inl (refusal input f first);
}

pub reported : (turns tick : ℕ) (seed : Option ℕ) (input : List ℕ) → AreLimits turns tick
    → IsSome (IsDueToRun turns tick seed input)
reported turns tick seed input limits = some_report turns tick seed limits input (one_holds input)

pub summed : (number : ℕ) → IsSome (IsSummary number)
summed number =
    let image = (has_image number).0 in
    record {
      status = short_status_on image;
      text = summary_on number image;
      is_due = record { image = image; stands = (has_image number).1; status_is = refl; text_is = refl };
    }
