-- Marks of what was touched, and whether octowords of a line are shared.
use Rattle.std.proofs.Common.{◌≡◌, ℕ, zero, suc, ◌+◌, ◌*◌, ◌<◌, Bool, true, false, List, [], ◌++◌}
use Rattle.std.proofs.Common.{refl, sym, ap, ◌∙◌, subst, arith, replicate, ◌-◌, max, min, Option, Some, None}
use Rattle.std.specs.Prelude.{◌||◌, ◌&&◌, not, nat_le, nat_lt, is_some, IfSome}
use Rattle.std.specs.List.{list_any, range_with_len}
use Rattle.std.proofs.lemmas.Bool.{cases_lt, or_from, and_from, le-leb, lt-ltb}
use Rattle.std.proofs.lemmas.List.{get_or-replicate, get_or_past, length-replicate}
use Rattle.std.proofs.lemmas.List.Folds.{list_any-append, list_any_at}
use Rattle.std.proofs.lemmas.List.FromFn.{length-range_with_len, get_or-range_with_len}
use Rattle.std.proofs.Math.Bool.{and-false}
use borrow.Enum.Arm.{by_way}
use Rattle.z_regs.specs.declared.ranges.Range.{Range}
use Rattle.line_table.specs.Sizes.{storage_lines}
use Rattle.bit_set.specs.Bits.{IsNext}
use Rattle.tx_footprint.specs.Places.{stores, has_place, lies_in}
use Rattle.tx_heat.specs.Marks.{Marks, AreMarksOf, is_marked}
use Rattle.tx_heat.specs.Octowords.{storage_octowords, asks, meets, are_apart}

-- ---- marks

-- nothing is marked where nothing was touched
no_mark : (n o : ℕ) → is_marked (replicate n false) o ≡ false
no_mark n o =
    by_way (cases_lt o n) (λ lt. get_or-replicate n o false false lt)
    (λ past. get_or_past (replicate n false) o false (omega (arith, past, length-replicate {A = Bool} n false)))

meets_nothing : (all : Bool) (o : ℕ) → meets all [] o ≡ false
unfolding meets
meets_nothing all o = refl

-- no mark is set
pub none_marked : (marks : Marks) → ((o : ℕ) → is_marked marks.touched o ≡ false)
    → ((o : ℕ) → is_marked marks.stored o ≡ false) → AreMarksOf marks []
none_marked marks one other = record {
  touched = λ o lt. one o ∙ sym (meets_nothing true o);
  stored = λ o lt. other o ∙ sym (meets_nothing false o);
}

-- and none of a list without marks
pub all_off : (set : List Bool) (n : ℕ) → set ≡ replicate n false → (o : ℕ) → is_marked set o ≡ false
all_off set n is o = ap (λ marks. is_marked marks o) is ∙ no_mark n o

-- ---- more marks

-- more ranges meet what either of them meets
meets_more : (all : Bool) (past more : List Range) (o : ℕ)
    → meets all (past ++ more) o ≡ (meets all past o || meets all more o)
unfolding meets
meets_more all past more o = list_any-append (λ r. (all || r.store) && has_place 32 r o) past more

-- more is marked
pub more_marked : (old new : Marks) (past more : List Range)
    → ((k : ℕ) → is_marked new.touched k ≡ (is_marked old.touched k || meets true more k))
    → ((k : ℕ) → is_marked new.stored k ≡ (is_marked old.stored k || meets false more k))
    → AreMarksOf old past → AreMarksOf new (past ++ more)
more_marked old new past more touched stored marks = record {
  touched = λ o lt. touched o ∙ ap (λ b. b || meets true more o) (marks.touched o lt)
      ∙ sym (meets_more true past more o);
  stored = λ o lt. stored o ∙ ap (λ b. b || meets false more o) (marks.stored o lt)
      ∙ sym (meets_more false past more o);
}

-- ---- octowords of a line

none_in : (test : ℕ → Bool) (a n : ℕ) → ((k : ℕ) → k < n → test (a + k) ≡ false)
    → list_any test (range_with_len a n) ≡ false
none_in test a zero h = refl
none_in test a (suc n) h =
    let first : test a ≡ false =
    ap test (let e : a ≡ a + 0 = omega arith in e) ∙ h 0 (omega arith) in
    or_from (test a) (list_any test (range_with_len (a + 1) n)) first
    (none_in test (a + 1) n (λ k lt.
    ap test (let e : (a + 1) + k ≡ a + (k + 1) = omega arith in e) ∙ h (k + 1) (omega arith)))

some_in : (test : ℕ → Bool) (a n k : ℕ) → k < n → test (a + k) ≡ true → list_any test (range_with_len a n) ≡ true
some_in test a n k lt is =
    list_any_at test (range_with_len a n) k 0 (omega (arith, lt, length-range_with_len a n))
    (ap test (get_or-range_with_len a n k 0 lt) ∙ is)

-- what neither of two has is not shared by both
pub neither_shared : (a b c : Bool) → (a && c) ≡ false → (b && c) ≡ false → ((a || b) && c) ≡ false
neither_shared true b c one other = one
neither_shared false b c one other = other

-- what a test has passed is there
found_at : (P : ℕ → Type 0) (o : Option ℕ) → is_some o ≡ true → IfSome o P → (at : ℕ) × P at
found_at P (Some at) is found = (at, found)
found_at P None is found = absurd (let x : false ≡ true = is in cc)

-- the next mark in a span and a line is one of both
pub shared_next : (r : Range) (set : List Bool) (line first last from end : ℕ) (o : Option ℕ)
    → ((k : ℕ) → lies_in first last k ≡ has_place 32 r k) → from ≡ max first (8 * line)
    → end ≡ min last (8 * line + 8) → IfSome o (λ at. IsNext set from end at) → is_some o ≡ true
    → (k : ℕ) × (k < 8) × (has_place 32 r (8 * line + k) ≡ true) × (is_marked set (8 * line + k) ≡ true)
shared_next r set line first last from end o places from_is end_is found is =
    let f = found_at (λ at. IsNext set from end at) o is found in
    let at = f.0 in
    let low = f.1.from_on in
    let high = f.1.below in
    let same : 8 * line + (at - 8 * line) ≡ at = omega (arith, low, from_is) in
    let inside : lies_in first last at ≡ true =
    and_from (nat_le first at) (nat_lt at last) (le-leb first at (omega (arith, low, from_is)))
    (lt-ltb at last (omega (arith, high, end_is))) in (
      at - 8 * line,
      omega (arith, low, high, from_is, end_is),
      subst (λ n. has_place 32 r n ≡ true) (sym same) (sym (places at) ∙ inside),
      subst (λ n. is_marked set n ≡ true) (sym same) f.1.marked,
    )

module _ (asked past : List Range) (line : ℕ) (low : line < storage_lines) (exclusive : Bool)
    (is : stores asked line ≡ exclusive) (set : List Bool)
    (marks : (o : ℕ) → o < storage_octowords → is_marked set o ≡ meets exclusive past o) where
  shared_at : (o : ℕ) → o < storage_octowords
      → (asks asked o && meets (stores asked line) past o) ≡ (asks asked o && is_marked set o)
  shared_at o lt =
      ap (λ b. asks asked o && meets b past o) is ∙ ap (λ b. asks asked o && b) (sym (marks o lt))

  -- nothing is shared
  pub apart : ((k : ℕ) → k < 8 → (asks asked (8 * line + k) && is_marked set (8 * line + k)) ≡ false)
      → are_apart asked past line ≡ true
  unfolding are_apart
  apart none =
      ap not (none_in (λ o. asks asked o && meets (stores asked line) past o) (8 * line) 8
      (λ k lt. shared_at (8 * line + k) (omega arith) ∙ none k lt))

  -- one octoword is shared
  pub together : (k : ℕ) → k < 8 → asks asked (8 * line + k) ≡ true → is_marked set (8 * line + k) ≡ true
      → are_apart asked past line ≡ false
  unfolding are_apart
  together k lt one other =
      ap not (some_in (λ o. asks asked o && meets (stores asked line) past o) (8 * line) 8 k lt
      (shared_at (8 * line + k) (omega arith) ∙ and_from _ _ one other))

  -- either
  pub decided : (shared : Bool)
      → (shared ≡ true → (k : ℕ) × (k < 8) × (asks asked (8 * line + k) ≡ true)
      × (is_marked set (8 * line + k) ≡ true))
      → (shared ≡ false → (k : ℕ) → k < 8 → (asks asked (8 * line + k) && is_marked set (8 * line + k)) ≡ false)
      → not shared ≡ are_apart asked past line
  decided true found none = let f = found refl in sym (together f.0 f.1 f.2 f.3)
  decided false found none = sym (apart (none refl))

-- everything lies apart from nothing
pub apart_from_nothing : (asked : List Range) (line : ℕ) → are_apart asked [] line ≡ true
unfolding are_apart meets
apart_from_nothing asked line =
    ap not (none_in (λ o. asks asked o && meets (stores asked line) [] o) (8 * line) 8
    (λ k lt. and-false (asks asked (8 * line + k))))
