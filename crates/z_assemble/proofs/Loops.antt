-- Steps of the loops over lines.
use Rattle.std.proofs.Common.{◌≡◌, ℕ, ◌+◌, ◌<◌, ◌≤◌, List, [], ◌∷◌, length, map, get_or, drop, Result, Ok}
use Rattle.std.proofs.Common.{Err, refl, ap, sym, ◌∙◌, subst}
use Rattle.z_fields.specs.Pieces.{pieces_by}
use Rattle.z_fields.proofs.Loops.{goes_on, fails_here, is_over}
use Rattle.z_fields.proofs.Pieces.{pieces_none}
use Rattle.z_reading.specs.Listing.{Plan, task_in}
use Rattle.z_setup.specs.Machine.{Machine, Known}
use Rattle.z_assemble.specs.Steps.{Passes}
use Rattle.z_assemble.specs.Whole.{first_on, first_over, second_on, second_over, ◌>>=◌}
use Rattle.z_reading.specs.declared.kept.Kept.{Kept}
use Rattle.z_assemble.specs.declared.fault.AssembleFault.{AssembleFault}
use Rattle.z_assemble.specs.declared.fault.AssembleFault.TheVariants as ends
use Rattle.z_assemble.specs.declared.fault.ListingFault.{ListingFault}

-- ---- the first reading

pub line_goes : (rest line behind : List ℕ) (n : ℕ) (p new : Plan) (whole : Result Plan ListingFault) →
    pieces_by 10 rest ≡ line ∷ pieces_by 10 behind → first_over n (pieces_by 10 rest) p ≡ whole →
    first_on n line p ≡ Ok new → first_over (n + 1) (pieces_by 10 behind) new ≡ whole
unfolding first_over
line_goes rest line behind n p new whole next inv s =
    sym (ap (λ ls. first_over n ls p) next
    ∙ ap (λ r. r >>= first_over (n + 1) (pieces_by 10 behind)) s) ∙ inv

pub line_fails : (rest line behind : List ℕ) (n : ℕ) (p new : Plan) (whole : Result Plan ListingFault)
    (a : AssembleFault) → pieces_by 10 rest ≡ line ∷ pieces_by 10 behind →
    first_over n (pieces_by 10 rest) p ≡ whole →
    Passes (Err a) (first_on n line p) new → Passes (Err a) whole new
unfolding first_over
line_fails rest line behind n p new whole ends.Memory next inv s = tt
line_fails rest line behind n p new whole (ends.Listing f) next inv s =
    sym inv ∙ (ap (λ ls. first_over n ls p) next
    ∙ ap (λ r. r >>= first_over (n + 1) (pieces_by 10 behind)) s)

pub lines_end : (rest : List ℕ) (n : ℕ) (p : Plan) (whole : Result Plan ListingFault) → length rest ≡ 0 →
    first_over n (pieces_by 10 rest) p ≡ whole → whole ≡ Ok p
unfolding first_over
lines_end rest n p whole none inv = sym inv ∙ ap (λ ls. first_over n ls p) (pieces_none 10 rest none)

-- ---- the second reading

module _ (k : Known) (text : List ℕ) where
  abbrev pub work_step : ℕ → Kept → Machine → Result Machine ListingFault
  work_step n t m = second_on k (task_in text t) m

  abbrev pub work_run : ℕ → List Kept → Machine → Result Machine ListingFault
  work_run n ts m = second_over k (map (task_in text) ts) m

  work_end : (n : ℕ) (m : Machine) → work_run n [] m ≡ Ok m
  unfolding second_over
  work_end n m = refl

  work_ok : (n : ℕ) (x : Kept) (xs : List Kept) (p q : Machine) → work_step n x p ≡ Ok q →
      work_run n (x ∷ xs) p ≡ work_run (n + 1) xs q
  unfolding second_over
  work_ok n x xs p q e = ap (λ r. r >>= second_over k (map (task_in text) xs)) e

  work_err : (n : ℕ) (x : Kept) (xs : List Kept) (p : Machine) (f : ListingFault) → work_step n x p ≡ Err f →
      work_run n (x ∷ xs) p ≡ Err f
  unfolding second_over
  work_err n x xs p f e = ap (λ r. r >>= second_over k (map (task_in text) xs)) e

  pub works_go : (xs : List Kept) (i : ℕ) (p new : Machine) (whole : Result Machine ListingFault) (w : Kept) →
      i < length xs → w ≡ get_or xs i w → work_run 0 (drop i xs) p ≡ whole →
      second_on k (task_in text w) p ≡ Ok new → work_run 0 (drop (i + 1) xs) new ≡ whole
  works_go xs i p new whole w h is e s = goes_on work_step work_run work_end work_ok work_err xs i 0 p whole w
      new h e (subst (λ v. second_on k (task_in text v) p ≡ Ok new) is s)

  pub works_fail : (xs : List Kept) (i : ℕ) (p new : Machine) (whole : Result Machine ListingFault) (w : Kept)
      (a : AssembleFault) → i < length xs → w ≡ get_or xs i w → work_run 0 (drop i xs) p ≡ whole →
      Passes (Err a) (second_on k (task_in text w) p) new → Passes (Err a) whole new
  works_fail xs i p new whole w ends.Memory h is e s = tt
  works_fail xs i p new whole w (ends.Listing f) h is e s =
      fails_here work_step work_run work_end work_ok work_err xs i 0 p whole w f h e
      (subst (λ v. second_on k (task_in text v) p ≡ Err f) is s)

  pub works_over : (xs : List Kept) (i : ℕ) (p : Machine) (whole : Result Machine ListingFault) →
      length xs ≤ i → work_run 0 (drop i xs) p ≡ whole → whole ≡ Ok p
  works_over xs i p whole h e = is_over work_step work_run work_end work_ok work_err xs i 0 p whole h e
