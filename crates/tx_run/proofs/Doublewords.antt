-- Eight bytes at once. Where neither CPU has a live attempt no store waits, so that each sees a byte as it is in storage.
use Rattle.std.proofs.Common.{◌≡◌, ℕ, ◌+◌, ◌-◌, ◌<◌, ◌≤◌, Bool, true, false, List, length, get_or, drop, Option, Some, None}
use Rattle.std.proofs.Common.{refl, sym, ap, ◌∙◌, arith}
use Rattle.std.specs.Prelude.{is_some, if◌then◌else◌}
use Rattle.std.proofs.lemmas.List.{get_or-take, get_or-drop}
use Rattle.z_regs.specs.Written.{range_at}
use Rattle.tx_serial.specs.Flat.{Storage}
use Rattle.tx_progress.specs.Progress.{Progress, is_live, resting, seen_through}
use Rattle.tx_cpu.specs.Plans.{levels_of}
use Rattle.tx_marks.specs.Own.{Own, bytes_at, is_touched, given}

-- a byte of eight, in a list that has them from a place on
byte-of : (bytes eight : List ℕ) (first a : ℕ) → eight ≡ range_at bytes first 8 → first ≤ a → a < first + 8
    → get_or eight (a - first) 0 ≡ get_or bytes a 0
byte-of bytes eight first a are low high =
    let within : a - first < 8 = omega arith in
    let place : first + (a - first) ≡ a = omega arith in
    ap (λ items. get_or items (a - first) 0) are ∙ get_or-take 8 (drop first bytes) (a - first) 0 within
    ∙ get_or-drop first bytes (a - first) 0 ∙ ap (λ k. get_or bytes k 0) place

-- a touched byte was, before, the one that is kept
given-before : (own : Own) (a : ℕ) → is_touched own a ≡ true → given own a ≡ bytes_at own.before a
given-before own a touched = ap (λ b. if b then bytes_at own.before a else bytes_at own.now a) touched

-- without an attempt a CPU sees storage as it is
none-live : (q : Progress) (s : Storage) (a : ℕ) → q ≡ resting q.cpu → seen_through q.overlay s a ≡ s a
none-live q s a bare = ap (λ (p : Progress). seen_through p.overlay s a) bare

-- a choice of some value is one exactly where it is made
pub some-live : (b : Bool) (x : ℕ × ℕ) → is_some (if b then Some x else None) ≡ b
some-live true x = refl
some-live false x = refl

-- a CPU of which it was asked has no live attempt
pub rests-so : (q : Progress) (levels : Option (ℕ × ℕ)) (some : Bool) → levels ≡ levels_of q → some ≡ is_some levels
    → some ≡ false → is_live q ≡ false
rests-so q levels some are is none =
    sym (some-live (is_live q) (length q.nest, q.count)) ∙ sym (ap is_some are) ∙ sym is ∙ none

-- the same eight bytes are kept of a run and lie in a storage
module _ (own : Own) (base eight : List ℕ) (first : ℕ) (kept : eight ≡ range_at own.before first 8)
    (there : eight ≡ range_at base first 8)
  where
    -- each of them that was touched is seen alike by two CPUs without attempts
    pub seen-alike : (q other : Progress) (a : ℕ) → q ≡ resting q.cpu → other ≡ resting other.cpu → first ≤ a
        → a < first + 8 → is_touched own a ≡ true
        → seen_through other.overlay (bytes_at base) a ≡ seen_through q.overlay (given own) a
    seen-alike q other a bare too low high touched =
        none-live other (bytes_at base) a too
        ∙ sym (byte-of base eight first a there low high)
        ∙ byte-of own.before eight first a kept low high
        ∙ sym (given-before own a touched)
        ∙ sym (none-live q (given own) a bare)
