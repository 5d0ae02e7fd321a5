-- Answers that are there, unless memory ran out.
use Rattle.std.proofs.Common.{◌≡◌, ℕ, List, IfOk, Result, Ok, Err, inl, inr, subst}
use Rattle.std.specs.Prelude.{◌⊎◌}
use Rattle.tx_journal.specs.Content.{Content}
use Rattle.z_assemble.specs.Whole.{Stands, FirstFault, HasFault}
use Rattle.z_assemble.specs.Words.{fault_line}
use Rattle.z_assemble.specs.declared.fault.AssembleFault.{AssembleFault}
use Rattle.z_assemble.specs.declared.fault.AssembleFault.TheVariants.{Listing}
use Rattle.z_assemble.specs.declared.fault.ListingFault.{ListingFault}
use Rattle.z_list.specs.Listing.{list_of}
use Rattle.listing_answers.specs.declared.answer.Answer.{Answer}
use Rattle.listing_answers.specs.Due.{IsRefusal, IsDueToList}

-- what is said of a value by two facts
pub both : {X E : Type 0} {P Q R : X → Type 0} → (r : Result X E) → ((x : X) → P x → Q x → R x) → IfOk r P
    → IfOk r Q → IfOk r R
both (Ok x) joins p q = joins x p q
both (Err e) joins p q = tt

pub listed_ok : {E : Type 0} (input : List ℕ) (image : Content) (r : Result Answer E) → Stands input image
    → IfOk r (λ a. a.status ≡ 0) → IfOk r (λ a. a.text.items ≡ list_of image)
    → IfOk r (λ a. IsDueToList input a.status a.text.items)
listed_ok input image r stands = both r
    (λ a s t. inr (record { image = image; stands = stands; status_is = s; text_is = t }))

-- the line of a fault is due to each text that has the fault
pub refusal_ok : {E : Type 0} (r : Result Answer E) (e : AssembleFault) (fault : ListingFault)
    → e ≡ Listing fault → IfOk r (λ a. a.status ≡ 5) → IfOk r (λ a. a.text.items ≡ fault_line fault)
    → IfOk r (λ a. (input : List ℕ) → HasFault input e → IsRefusal input a.status a.text.items)
refusal_ok r e fault is = both r (λ a s t. λ input has.
    let first : FirstFault input fault = subst (HasFault input) is has in
    record { fault = fault; first = first; status_is = s; text_is = t })

module _ {E : Type 0} (input : List ℕ) (e : AssembleFault) (has : HasFault input e) where
  -- so it is due to this text
  pub refused_ok : (r : Result Answer E)
      → IfOk r (λ a. (input : List ℕ) → HasFault input e → IsRefusal input a.status a.text.items)
      → IfOk r (λ a. IsRefusal input a.status a.text.items)
  refused_ok (Ok a) told = told input has
  refused_ok (Err f) told = tt

  -- whatever else might be due to another text
  pub refused_or : (Due : List ℕ → ℕ → List ℕ → Type 0) (r : Result Answer E)
      → IfOk r (λ a. (input : List ℕ) → HasFault input e → IsRefusal input a.status a.text.items)
      → IfOk r (λ a. IsRefusal input a.status a.text.items ⊎ Due input a.status a.text.items)
  refused_or Due (Ok a) told = inl (told input has)
  refused_or Due (Err f) told = tt
