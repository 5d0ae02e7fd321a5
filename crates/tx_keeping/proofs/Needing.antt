-- Each line of ranges is among the lines that are needed for them, exclusively where it is stored.
use Rattle.std.proofs.Common.{◌≡◌, ◌≢◌, ℕ, zero, suc, ◌+◌, ◌-◌, ◌/◌, ◌<◌, ◌≤◌, Bool, true, false, eqb, List}
use Rattle.std.proofs.Common.{[]}
use Rattle.std.proofs.Common.{◌∷◌, ◌++◌, Option, Some, None, is_some, refl, sym, ap, subst, arith, ◌⊎◌, inl}
use Rattle.std.proofs.Common.{inr}
use Rattle.std.proofs.Common.{map}
use Rattle.std.specs.Prelude.{◌&&◌, not, nat_lt, nat_le, nat_eq, if◌then◌else◌, fold}
use Rattle.std.specs.List.{list_any, flat_map, range_with_len}
use Rattle.std.proofs.lemmas.Bool.{cases_eq, or_cases, or_left, or_right, and_parts, and_from, eqb-true}
use Rattle.std.proofs.lemmas.Bool.{cond-false}
use Rattle.std.proofs.lemmas.Bool.{cond-true, ne_eqb, lt-ltb, le-leb}
use borrow.Enum.Arm.{by_way}
use Rattle.z_regs.specs.Rising.{with_number}
use Rattle.z_regs.specs.declared.ranges.Range.{Range}
use Rattle.line_table.specs.declared.table.Mode.{Mode}
use Rattle.line_table.specs.declared.table.Mode.TheVariants.{Shared, Exclusive}
use Rattle.tx_footprint.specs.Sizes.{line_size}
use Rattle.tx_footprint.specs.Places.{has_place, fetches, stores}
use Rattle.tx_meaning.specs.declared.asking.Need.{Need}
use Rattle.tx_meaning.specs.Needs.{first_line, last_line, has_line, lines_of, rising, mode_for}
use Rattle.tx_meaning.specs.Needs.{needs_of}
use Rattle.tx_meaning.specs.Asking.{is_there}
use Rattle.tx_keeping.proofs.Getting.{Among}
use Rattle.tx_keeping.proofs.Holding.{needs_it}

-- ---- numbers in lists

abbrev In : ℕ → List ℕ → Type 0
In x [] = ⊥
In x (y ∷ ys) = (x ≡ y) ⊎ In x ys

in_range : (a n x : ℕ) → a ≤ x → x < a + n → In x (range_with_len a n)
in_range a zero x le lt = absurd (omega arith)
in_range a (suc n) x le lt =
    by_way (cases_eq x a) (λ e. inl e)
    (λ ne. inr (in_range (a + 1) n x (omega arith) (omega arith)))

in_first : (x : ℕ) (xs ys : List ℕ) → In x xs → In x (xs ++ ys)
in_first x [] ys h = absurd h
in_first x (z ∷ xs) ys (inl e) = inl e
in_first x (z ∷ xs) ys (inr h) = inr (in_first x xs ys h)

in_second : (x : ℕ) (xs ys : List ℕ) → In x ys → In x (xs ++ ys)
in_second x [] ys h = h
in_second x (z ∷ xs) ys h = inr (in_second x xs ys h)

in_where : (x n : ℕ) (b : Bool) (first other : List ℕ) → In x first → In x other
    → In x (if b then first else other)
in_where x n true first other h g = h
in_where x n false first other h g = g

-- whichever of the two it is, where they are one number
same_number : (k n : ℕ) (b : Bool) (rest : List ℕ) (other : List ℕ) → nat_eq k n ≡ b → In n other
    → In n (if b then k ∷ rest else other)
same_number k n true rest other e h = inl (sym (eqb-true k n e))
same_number k n false rest other e h = h

-- a number that is put is there
new_in : (n : ℕ) (xs : List ℕ) → In n (with_number xs n)
new_in n [] = inl refl
new_in n (k ∷ rest) =
    in_where n n (nat_lt k n) (k ∷ with_number rest n) _ (inr (new_in n rest))
    (same_number k n (nat_eq k n) rest (n ∷ k ∷ rest) refl (inl refl))

-- and so is one that was there
old_in : (n x : ℕ) (xs : List ℕ) → In x xs → In x (with_number xs n)
old_in n x [] h = absurd h
old_in n x (k ∷ rest) h =
    in_where x n (nat_lt k n) (k ∷ with_number rest n) _
    (by_way h (λ e. inl e) (λ later. inr (old_in n x rest later)))
    (in_where x n (nat_eq k n) (k ∷ rest) (n ∷ k ∷ rest) h (inr h))

-- several that are put are there, and those that were
in_fold : (x : ℕ) (xs sorted : List ℕ) → (In x sorted) ⊎ (In x xs) → In x (fold with_number sorted xs)
in_fold x [] sorted (inl h) = h
in_fold x [] sorted (inr h) = absurd h
in_fold x (y ∷ ys) sorted (inl h) = in_fold x ys (with_number sorted y) (inl (old_in y x sorted h))
in_fold x (y ∷ ys) sorted (inr (inl e)) =
    in_fold x ys (with_number sorted y) (inl (subst (λ z. In z (with_number sorted y)) (sym e)
    (new_in y sorted)))
in_fold x (y ∷ ys) sorted (inr (inr h)) = in_fold x ys (with_number sorted y) (inr h)

in_map : (f : ℕ → Need) (x : ℕ) (xs : List ℕ) → In x xs → Among (f x) (map f xs)
in_map f x [] h = absurd h
in_map f x (y ∷ ys) (inl e) = inl (ap f e)
in_map f x (y ∷ ys) (inr h) = inr (in_map f x ys h)

-- ---- the lines of a range

-- an address of a line
pub record Spot (a n line : ℕ) : Type 0 where
  pub at : ℕ
  pub low : a ≤ at
  pub high : at < a + n
  pub there : at / line_size ≡ line

pub spot : (a n line : ℕ) → list_any (λ x. eqb (x / line_size) line) (range_with_len a n) ≡ true
    → Spot a n line
spot a zero line h = absurd (let e : false ≡ true = h in cc)
spot a (suc n) line h =
    by_way (or_cases (eqb (a / line_size) line) (list_any (λ x. eqb (x / line_size) line) (range_with_len
    (a + 1) n)) h)
    (λ here. record {
      at = a;
      low = omega arith;
      high = omega arith;
      there = eqb-true
          (a / line_size) line here;
    })
    (λ later. let s = spot (a + 1) n line later in
    record { at = s.at; low = omega (arith, s.low); high = omega (arith, s.high); there = s.there })

record IsLine (r : Range) (line : ℕ) : Type 0 where
  some : 0 < r.length
  low : first_line r ≤ line
  high : line ≤ last_line r

place_line : (r : Range) (line : ℕ) → has_place line_size r line ≡ true → IsLine r line
unfolding has_place
place_line r line h =
    let s = spot r.first r.length line h in
    record {
      some = omega (arith, s.low, s.high);
      low = omega (arith, s.low, s.there);
      high = omega (arith, s.low, s.high, s.there);
    }

line_has : (r : Range) (line : ℕ) → IsLine r line → has_line line r ≡ true
line_has r line h =
    and_from (nat_lt 0 r.length) _ (lt-ltb 0 r.length h.some)
    (and_from (nat_le (first_line r) line) (nat_le line (last_line r)) (le-leb (first_line r) line h.low)
    (le-leb line (last_line r) h.high))

line_in : (r : Range) (line : ℕ) → IsLine r line → In line (lines_of r)
line_in r line h =
    let some : r.length ≢ 0 = omega (arith, h.some) in
    subst (In line) (sym (cond-false (nat_eq r.length 0) [] _ (ne_eqb r.length 0 some)))
    (in_range (first_line r) (last_line r + 1 - first_line r) line h.low (omega (arith, h.low, h.high)))

-- a range that passes a test
line_of_some : (test : Range → Bool) (ranges : List Range) (line : ℕ)
    → list_any (λ r. test r && has_place line_size r line) ranges ≡ true → In line (flat_map lines_of ranges)
line_of_some test [] line h = absurd (let e : false ≡ true = h in cc)
line_of_some test (r ∷ rest) line h =
    by_way (or_cases (test r && has_place line_size r line)
    (list_any (λ r. test r && has_place line_size r line) rest) h)
    (λ here. in_first line (lines_of r) (flat_map lines_of rest)
    (line_in r line (place_line r line (and_parts (test r) (has_place line_size r line) here).1)))
    (λ later. in_second line (lines_of r) (flat_map lines_of rest) (line_of_some test rest line later))

stored_line : (ranges : List Range) (line : ℕ) → stores ranges line ≡ true
    → list_any (λ r. r.store && has_line line r) ranges ≡ true
stored_line [] line h = h
stored_line (r ∷ rest) line h =
    by_way (or_cases (r.store && has_place line_size r line) (stores rest line) h)
    (λ here. let both = and_parts r.store (has_place line_size r line) here in
    or_left (r.store && has_line line r) (list_any (λ r. r.store && has_line line r) rest)
    (and_from r.store (has_line line r) both.0 (line_has r line (place_line r line both.1))))
    (λ later. or_right (r.store && has_line line r) (list_any (λ r. r.store && has_line line r) rest)
    (stored_line rest line later))

-- ---- the needs

needs_line : (ranges : List Range) (line : ℕ) → In line (flat_map lines_of ranges)
    → Among (record { line = line; mode = mode_for ranges line }) (needs_of ranges)
unfolding needs_of
needs_line ranges line h =
    in_map (λ line. record { line = line; mode = mode_for ranges line }) line (rising
    (flat_map lines_of ranges))
    (in_fold line (flat_map lines_of ranges) [] (inr h))

there_exclusive : (h : Option Mode) → is_there Exclusive h ≡ true → h ≡ Some Exclusive
there_exclusive None e = let n : false ≡ true = e in absurd (cc)
there_exclusive (Some Shared) e = let n : false ≡ true = e in absurd (cc)
there_exclusive (Some Exclusive) e = refl

-- where all needs of ranges are there, what they store is held exclusively, and what they fetch is held
pub record HasLines (modes : ℕ → Option Mode) (ranges : List Range) : Type 0 where
  pub stored : (line : ℕ) → stores ranges line ≡ true → modes line ≡ Some Exclusive
  pub fetched : (line : ℕ) → fetches ranges line ≡ true → is_some (modes line) ≡ true

pub has_lines : (modes : ℕ → Option Mode) (ranges : List Range)
    → ((n : Need) → Among n (needs_of ranges) → is_there n.mode (modes n.line) ≡ true) → HasLines modes ranges
has_lines modes ranges there = record {
  stored = λ line h.
      let exclusive : mode_for ranges line ≡ Exclusive =
      cond-true (list_any (λ r. r.store && has_line line r) ranges) Exclusive Shared
      (stored_line ranges line h) in
      there_exclusive (modes line) (subst (λ mode. is_there mode (modes line) ≡ true) exclusive
      (there (record { line = line; mode = mode_for ranges line })
      (needs_line ranges line (line_of_some (λ r. r.store) ranges line h))));
  fetched = λ line h.
      needs_it (mode_for ranges line) (modes line)
      (there (record { line = line; mode = mode_for ranges line })
      (needs_line ranges line (line_of_some (λ r. not r.store) ranges line h)));
}
