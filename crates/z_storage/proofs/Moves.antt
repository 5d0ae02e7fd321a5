-- Bytes that are moved several at a time.
use Rattle.std.proofs.Common.{◌≡◌, ℕ, zero, suc, ◌≤◌, ◌+◌, ◌-◌, List, ◌∷◌, [], ◌++◌, length, get_or, take, true, ◌||◌, nat_lt, nat_le}
use Rattle.std.proofs.Common.{◌⊎◌, inl, inr, refl, sym, ap, ◌∙◌, arith}
use Rattle.std.specs.Prelude.{if◌then◌else◌}
use Rattle.std.proofs.lemmas.Bool.{cases_lt, lt-ltb}
use Rattle.std.proofs.lemmas.Bool.Decides.{nat_tests}
use Rattle.std.proofs.lemmas.List.{take_all, take_more}
use Rattle.std.proofs.Math.Numerals.{add-one}
use Rattle.z_regs.specs.Written.{range_at}
use Rattle.z_instr.specs.declared.kind.Combination.TheVariants.{Move}
use Rattle.z_effect.specs.StorageEffect.{lead, results}
use Rattle.z_storage.proofs.Bytewise.{lead_cases}
use Rattle.z_regs.proofs.OneArea.{length-range_at}

-- so length-range_at bytes from one place, to another, never store what is fetched later
abbrev pub Apart : ℕ → ℕ → ℕ → Type 0
Apart n target source = (target ≤ source) ⊎ (source + n ≤ target)

pub apart_cases : (n target source : ℕ) → (nat_le target source || nat_le (source + n) target) ≡ true →
    Apart n target source
apart_cases n target source h = elim (cases_lt source target) [
  | inr low ↦ inl low
  | inl more ↦ inr (grind (arith, nat_tests))
]

-- ---- the results of a move

moved : (k n : ℕ) (a b : List ℕ) → k ≤ n → k ≤ length b → results k Move n a b ≡ take k b
unfolding results
moved zero n a b h l = refl
moved (suc k) n a b h l =
    let before : results k Move n a b ≡ take k b = moved k n a b (omega (arith, h)) (omega (arith, l)) in
    let test : nat_lt k n ≡ true = lt-ltb k n (omega (arith, h)) in
    let chosen : (if nat_lt k n then get_or b k 0 else get_or (take k b) (k - n) 0) ≡ get_or b k 0 =
    rw test refl in
    ap (λ xs. xs ++ (if nat_lt k n then get_or b k 0 else get_or xs (k - n) 0) ∷ []) before
    ∙ ap (λ x. take k b ++ x ∷ []) chosen
    ∙ sym (take_more b k 0 (omega (arith, l)))
    ∙ ap (λ j. take j b) (add-one k)

pub no_lead : (n a b : ℕ) → Apart n a b → lead n a b ≡ n
no_lead n a b o = elim (lead_cases n a b) [
  | inl (x, y, z) ↦ absurd (elim o [ inl low ↦ omega (arith, x, low) | inr high ↦ omega (arith, y, high) ])
  | inr (x, z) ↦ z
]

pub moved_results : (s : List ℕ) (a b n : ℕ) → b + n ≤ length s → Apart n a b →
    results n Move (lead n a b) (range_at s a n) (range_at s b n) ≡ range_at s b n
moved_results s a b n h o =
    let size : length (range_at s b n) ≡ n = length-range_at s b n h in
    ap (λ l. results n Move l (range_at s a n) (range_at s b n)) (no_lead n a b o)
    ∙ moved n n (range_at s a n) (range_at s b n) (omega arith) (omega (arith, size))
    ∙ take_all n (range_at s b n) (omega (arith, size))
