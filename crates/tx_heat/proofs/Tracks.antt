-- The marks of attempts, one after the other; and CPUs of a range, one after the other.
use Rattle.std.proofs.Common.{◌≡◌, ◌≢◌, ℕ, ◌+◌, ◌<◌, ◌≤◌, Bool, true, false, List, Some, sym, ap, ◌∙◌}
use Rattle.std.proofs.Common.{subst, arith, length, get_or, set, take}
use Rattle.std.specs.Prelude.{nat_lt, slice_get}
use Rattle.std.specs.List.{list_all, range_with_len}
use Rattle.std.proofs.lemmas.Bool.{cases_eq, cases_lt, cases_Bool, and_from}
use Rattle.std.proofs.lemmas.List.{length-set}
use Rattle.std.proofs.lemmas.List.Folds.{list_all_more, list_all_at}
use Rattle.std.proofs.lemmas.List.FromFn.{length-range_with_len, get_or-range_with_len}
use Rattle.std.proofs.lemmas.Option.{slice_get-get_or, slice_get_past}
use borrow.Enum.Arm.{by_way}
use Rattle.z_regs.specs.declared.ranges.Range.{Range}
use Rattle.tx_meaning.specs.Limits.{Setting}
use Rattle.tx_meaning.specs.State.{State, is_live}
use Rattle.tx_heat.specs.Watched.{Tracked, Passes}
use Rattle.z_regs.proofs.Elements.{put_is_there}
use Rattle.tx_heat.proofs.Counted.{set_other}

module _ (tracks start : List Tracked) (k : ℕ) (old new : Tracked) (lt : k < length tracks)
    (at : get_or tracks k old ≡ old) (ahead : (j : ℕ) → k ≤ j → slice_get tracks j ≡ slice_get start j) where
  pub still_ahead : (j : ℕ) → k + 1 ≤ j → slice_get (set tracks k new) j ≡ slice_get start j
  still_ahead j le =
      by_way (cases_lt j (length tracks))
      (λ low. let ne : j ≢ k = omega (arith, le) in set_other tracks k j new low ne ∙ ahead j (omega (arith, le)))
      (λ past. slice_get_past (set tracks k new) j (omega (arith, past, length-set tracks k new))
      ∙ sym (slice_get_past tracks j past) ∙ ahead j (omega (arith, le)))

  pub old_at : slice_get start k ≡ Some old
  old_at = sym (ahead k (omega arith)) ∙ slice_get-get_or tracks k old lt ∙ ap (λ x. Some x) at

  pub here_or_before : (P : ℕ → Tracked → Type 0)
      → ((j : ℕ) (marks : Tracked) → j < k → slice_get tracks j ≡ Some marks → P j marks) → P k new
      → (j : ℕ) (marks : Tracked) → j < k + 1 → slice_get (set tracks k new) j ≡ Some marks → P j marks
  here_or_before P before here j marks low e =
      by_way (cases_eq j k)
      (λ same.
      let there : Some new ≡ Some marks =
      sym (put_is_there tracks k new lt) ∙ ap (slice_get (set tracks k new)) (sym same) ∙ e in
      let it : new ≡ marks = cc in
      subst (λ x. P x marks) (sym same) (subst (P k) it here))
      (λ ne. before j marks (omega (arith, low, ne))
      (sym (set_other tracks k j new (omega (arith, low, lt)) ne) ∙ e))

-- a CPU that is not there does not begin an attempt
pub no_one_beyond : (m : Setting) (before after : State) (cpu j : ℕ) (asked : List Range) → j ≢ cpu
    → Passes m before after cpu asked j → is_live before j ≡ false → is_live after j ≡ false
no_one_beyond m before after cpu j asked ne passes off =
    by_way (cases_Bool (is_live after j))
    (λ on.
    let n : true ≡ false = sym on ∙ ap (nat_lt 0) (passes.others ne on) ∙ off in cc)
    (λ none. none)

-- ---- CPUs of a range

number_at : (n i : ℕ) → i < n → get_or (range_with_len 0 n) i 0 ≡ i
number_at n i lt = get_or-range_with_len 0 n i 0 lt ∙ (let same : 0 + i ≡ i = omega arith in same)

pub one_fails : (test : ℕ → Bool) (n i : ℕ) → i < n → test i ≡ false → list_all test (range_with_len 0 n) ≡ false
one_fails test n i lt off =
    list_all_at test (range_with_len 0 n) i 0 (omega (arith, lt, length-range_with_len 0 n))
    (ap test (number_at n i lt) ∙ off)

pub one_more_passes : (test : ℕ → Bool) (n i : ℕ) → i < n → list_all test (take i (range_with_len 0 n)) ≡ true
    → test i ≡ true → list_all test (take (i + 1) (range_with_len 0 n)) ≡ true
one_more_passes test n i lt before on =
    list_all_more test (range_with_len 0 n) i 0 (omega (arith, lt, length-range_with_len 0 n))
    ∙ and_from (list_all test (take i (range_with_len 0 n))) (test (get_or (range_with_len 0 n) i 0)) before
    (ap test (number_at n i lt) ∙ on)
