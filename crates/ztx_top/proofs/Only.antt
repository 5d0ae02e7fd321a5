-- Over a source and a sink that never fail there is one answer.
use Rattle.std.proofs.Common.{◌≡◌, ◌≢◌, ℕ, zero, suc, ◌⊎◌, true, false, List, [], Option, Some, sym, subst, inl, inr}
use Rattle.std.proofs.Common.{refl, arith, ◌∙◌}
use Rattle.std.specs.Io.KnownBytes.{Appends}
use Rattle.std.proofs.KnownBytes.{Appends-nil, Appends-kept}
use Rattle.ztx_answers.specs.One.{IsOnly}
use Rattle.ztx_answers.proofs.Answered.{one_listing, one_summary}
use Rattle.ztx_answers.specs.Requests.{IsDue}
use Rattle.ztx_answers.specs.declared.requests.Request.{Request}
use Rattle.ztx_io.specs.Faults.{Rose}
use Rattle.ztx_io.specs.Writes.{AppendsPrefix}
use Rattle.ztx_top.specs.declared.errand.Errand.{Errand}
use Rattle.ztx_top.specs.declared.errand.Errand.TheVariants as errand
use Rattle.ztx_top.specs.Answers.{Due, IsWhole, Wrote, WasCut, Tells}
use Rattle.ztx_top.specs.Asked.{IsBadWords, due, is_settled}

-- a count that is always 0 does not rise
pub no_rise : Rose 0 0 → ⊥
no_rise (inl more) = omega arith
no_rise (inr last) = omega arith

-- ---- one answer is due

one_refusal : IsOnly IsBadWords
one_refusal s t xs ys r q = record {
  statuses = r.status_is ∙ sym q.status_is;
  texts = r.text_is ∙ sym q.text_is;
}

module _ (one_request : (request : Request) (input : List ℕ) → IsOnly (IsDue request input)) where
  pub one_due : (asked : Errand) (input : List ℕ) → is_settled asked ≡ true → IsOnly (due asked input)
  one_due (errand.Input asked) input settled = one_request asked input
  one_due (errand.Race turns tick) input settled = let n : false ≡ true = settled in absurd (cc)
  one_due (errand.Generate number) input settled = one_listing number
  one_due (errand.Summary number) input settled = one_summary number
  one_due errand.Nothing input settled = one_refusal

-- ---- and it is told

one_or_not : (n : ℕ) → (n ≡ 1) ⊎ (n ≢ 1)
one_or_not zero = inr (λ e. omega (arith, e))
one_or_not (suc zero) = inl refl
one_or_not (suc (suc n)) = inr (λ e. omega (arith, e))

module _ (due : Due) (input : List ℕ) (only : IsOnly (due input)) (status : ℕ) (text : List ℕ)
    (is_due : due input status text) (held after : Option (List ℕ)) (answer : ℕ) where
  wrote_it : Wrote due (Some input) answer held after → Tells answer status text held after
  wrote_it w =
      let there : due input answer w.text = subst (λ i. due i answer w.text) (sym w.is_input) w.is_due in
      let same = only answer status w.text text there is_due in
      inl (same.statuses, subst (Appends held after) same.texts w.written)

  begun : WasCut due (Some input) held after → AppendsPrefix held after text
  begun (inl keeps) = (0, Appends-kept held held after [] (Appends-nil held) keeps)
  begun (inr w) =
      let there : due input w.status w.text = subst (λ i. due i w.status w.text) (sym w.is_input) w.is_due in
      subst (AppendsPrefix held after) (only w.status status w.text text there is_due).texts w.written

  tells_by : (answer ≡ 1) ⊎ (answer ≢ 1) → (answer ≢ 2) → (answer ≢ 3)
      → (IsWhole answer → Wrote due (Some input) answer held after)
      → (((answer ≡ 1) ⊎ (answer ≡ 3)) → WasCut due (Some input) held after)
      → Tells answer status text held after
  tells_by (inl one) two three whole cut = inr (one, begun (cut (inl one)))
  tells_by (inr one) two three whole cut = wrote_it (whole (one, two, three))

  pub tells : (answer ≢ 2) → (answer ≢ 3) → (IsWhole answer → Wrote due (Some input) answer held after)
      → (((answer ≡ 1) ⊎ (answer ≡ 3)) → WasCut due (Some input) held after)
      → Tells answer status text held after
  tells two three whole cut = tells_by (one_or_not answer) two three whole cut
