-- Texts that are due, written whole or cut.
use Rattle.std.proofs.Common.{◌≡◌, ℕ, ◌⊎◌, List, Option, sym, subst, inl, inr}
use Rattle.std.specs.Io.KnownBytes.{Appends}
use Rattle.ztx_io.specs.Writes.{AppendsPrefix}
use Rattle.ztx_top.specs.Answers.{Due, IsInput, IsWhole, Wrote, WasCut}

-- what is due to an input, with a status and a text
module _ (due : Due) (left : Option (List ℕ)) (input : List ℕ) (status : ℕ) (text : List ℕ)
    (held after : Option (List ℕ)) (is_input : IsInput left input) (is_due : due input status text) where
  pub wrote : (answer : ℕ) → ((answer ≡ status) ⊎ ((answer ≡ 1) ⊎ (answer ≡ 3)))
      → (answer ≡ status → Appends held after text) → IsWhole answer → Wrote due left answer held after
  wrote answer (inl same) done whole = record {
    input = input;
    is_input = is_input;
    text = text;
    is_due = subst (λ s. due input s text) (sym same) is_due;
    written = done same;
  }
  wrote answer (inr (inl memory)) done whole = absurd (whole.0 memory)
  wrote answer (inr (inr fault)) done whole = absurd (whole.2 fault)

  pub cut : AppendsPrefix held after text → WasCut due left held after
  cut written = inr (record {
    input = input;
    is_input = is_input;
    status = status;
    text = text;
    is_due = is_due;
    written = written;
  })
