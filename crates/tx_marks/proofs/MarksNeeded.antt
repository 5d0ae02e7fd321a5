-- Needs that are there, one after the other.
use Rattle.std.proofs.Common.{◌≡◌, ℕ, Bool, true, false, List, [], ◌∷◌, ◌++◌, Option, Some, None}
use Rattle.std.proofs.Common.{refl, ap, ◌∙◌}
use Rattle.std.specs.Prelude.{◌==◌, if◌then◌else◌, All}
use Rattle.std.proofs.lemmas.Bool.{eq-eqb}
use Rattle.std.proofs.lemmas.List.Elements.{All-nil, All-cons}
use Rattle.line_table.specs.declared.table.Mode.{Mode}
use Rattle.line_table.specs.declared.table.Mode.TheVariants.{Shared, Exclusive}
use Rattle.tx_lending.specs.Need.{Need}
use Rattle.tx_lending.specs.Asking.{is_there}
use Rattle.tx_marks.specs.Marks.{with_mode, with_need, with_needs, first_missing}

-- ---- one need more

-- what is there stays there beside another mode
still_beside : (mode more : Mode) (there : Option Mode) → is_there mode there ≡ true
    → is_there mode (with_mode more there) ≡ true
still_beside Shared Exclusive (Some Shared) h = refl
still_beside Shared Exclusive (Some Exclusive) h = refl
still_beside Exclusive Exclusive (Some Exclusive) h = refl
still_beside Shared Shared (Some Shared) h = refl
still_beside Shared Shared (Some Exclusive) h = refl
still_beside Exclusive Shared (Some Exclusive) h = refl
still_beside Exclusive more (Some Shared) h = cc
still_beside mode more None h = cc

still_by : (same : Bool) (mode more : Mode) (there : Option Mode) → is_there mode there ≡ true
    → is_there mode (if same then with_mode more there else there) ≡ true
still_by true mode more there h = still_beside mode more there h
still_by false mode more there h = h

-- a mode is there once it was needed
now_there : (mode : Mode) (there : Option Mode) → is_there mode (with_mode mode there) ≡ true
now_there Exclusive there = refl
now_there Shared None = refl
now_there Shared (Some Shared) = refl
now_there Shared (Some Exclusive) = refl

-- ---- needs one after the other

pub there-stays : (needs : List Need) (modes : ℕ → Option Mode) (line : ℕ) (mode : Mode)
    → is_there mode (modes line) ≡ true → is_there mode (with_needs needs modes line) ≡ true
unfolding with_needs
there-stays [] modes line mode h = h
there-stays (need ∷ rest) modes line mode h =
    there-stays rest (with_need need modes) line mode
    (still_by (line == need.line) mode need.mode (modes line) h)

pub needs-there : (needs : List Need) (modes : ℕ → Option Mode)
    → All (λ (need : Need). is_there need.mode (with_needs needs modes need.line) ≡ true) needs
unfolding with_needs
needs-there [] modes = All-nil (λ (need : Need). is_there need.mode (modes need.line) ≡ true)
needs-there (need ∷ rest) modes =
    All-cons (λ (n : Need). is_there n.mode (with_needs rest (with_need need modes) n.line) ≡ true) need rest
    (there-stays rest (with_need need modes) need.line need.mode here)
    (needs-there rest (with_need need modes))
  where
    here : is_there need.mode (with_need need modes need.line) ≡ true
    here =
        ap (λ b. is_there need.mode (if b then with_mode need.mode (modes need.line) else modes need.line))
        (eq-eqb need.line need.line refl)
        ∙ now_there need.mode (modes need.line)

pub missing-none : (needs : List Need) (modes : ℕ → Option Mode) → first_missing needs modes ≡ None
    → All (λ (need : Need). is_there need.mode (modes need.line) ≡ true) needs
unfolding first_missing
missing-none [] modes h = All-nil (λ (need : Need). is_there need.mode (modes need.line) ≡ true)
missing-none (need ∷ rest) modes h = by (is_there need.mode (modes need.line)) refl h (missing-none rest modes)
  where
    by : (b : Bool) → is_there need.mode (modes need.line) ≡ b
        → (if b then first_missing rest modes else Some need.line) ≡ None
        → (first_missing rest modes ≡ None → All (λ (n : Need). is_there n.mode (modes n.line) ≡ true) rest)
        → All (λ (n : Need). is_there n.mode (modes n.line) ≡ true) (need ∷ rest)
    by true e h more =
        All-cons (λ (n : Need). is_there n.mode (modes n.line) ≡ true) need rest e (more h)
    by false e h more = absurd cc

-- ---- as code goes

-- one need more, where the modes were these
pub one_needed : (needs : List Need) (need : Need) (modes before : ℕ → Option Mode) (line : ℕ)
    → before line ≡ with_needs needs modes line
    → with_need need before line ≡ with_needs (needs ++ need ∷ []) modes line
unfolding with_needs
one_needed [] need modes before line e =
    ap (λ there. if line == need.line then with_mode need.mode there else there) e
one_needed (n ∷ rest) need modes before line e = one_needed rest need (with_need n modes) before line e

-- the first of the needs is there
pub there_first : (need : Need) (rest : List Need) (modes : ℕ → Option Mode)
    → is_there need.mode (modes need.line) ≡ true
    → first_missing (need ∷ rest) modes ≡ first_missing rest modes
unfolding first_missing
there_first need rest modes e = ap (λ b. if b then first_missing rest modes else Some need.line) e

-- the first of the needs is missing
pub missing_first : (need : Need) (rest : List Need) (modes : ℕ → Option Mode)
    → is_there need.mode (modes need.line) ≡ false
    → first_missing (need ∷ rest) modes ≡ Some need.line
unfolding first_missing
missing_first need rest modes e = ap (λ b. if b then first_missing rest modes else Some need.line) e
