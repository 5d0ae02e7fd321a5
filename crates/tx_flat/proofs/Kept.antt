-- Storage and a copy that take over the lines of another copy, one line after the other.
use Rattle.std.proofs.Common.{◌≡◌, ◌≢◌, ◌∙◌, ap, sym, subst, refl, ℕ, ◌+◌, ◌-◌, ◌*◌, ◌/◌, ◌<◌, ◌≤◌, ◌⊎◌, inl, inr, arith}
use Rattle.std.proofs.Common.{List, ◌∷◌, length, get_or, drop, Bool, true, false, Option}
use Rattle.std.specs.Prelude.{◌&&◌, ◌||◌, ◌==◌, not, if◌then◌else◌, nat_le, slice_get, Some}
use Rattle.std.proofs.lemmas.Bool.{cases_lt, and_right}
use Rattle.std.proofs.lemmas.Option.{get_or_from_slice_get, slice_get_within}
use Rattle.std.proofs.lemmas.List.{ext_get_or, drop_more, drop_all}
use Rattle.bit_set.specs.Counts.{but_at}
use Rattle.z_regs.specs.Prefix.{storage_size, is_prefix, absolute_of}
use Rattle.z_regs.specs.Seen.{seen_by}
use Rattle.z_regs.specs.declared.ranges.Range.{Range}
use Rattle.z_regs.proofs.Exchange.{absolute_within, absolute_twice}
use Rattle.tx_footprint.specs.Places.{has_place, stores, lies_in}
use Rattle.tx_footprint.specs.Sizes.{line_size}
use Rattle.tx_footprint.proofs.Spans.{span_is, no_bytes}
use Rattle.tx_private.specs.declared.attempt.Attempt.{Attempt}
use Rattle.tx_private.specs.Ready.{IsReady}
use Rattle.tx_flat.specs.Near.{AreKept, Near}
use Rattle.tx_private.proofs.Turned.{seen_so}

-- ---- tests of lines

-- fewer lines that differ
pub fewer_kept : (prefix : Option ℕ) (some others : ℕ → Bool) (copy storage other : List ℕ)
    → ((line : ℕ) → line < 4096 → others line ≡ false → some line ≡ false)
    → AreKept prefix some copy storage other → is_prefix prefix ≡ true → AreKept prefix others copy storage other
fewer_kept prefix some others copy storage other less h ok = record {
  in_storage = λ a within off. h.in_storage a within (less (a / line_size) (omega (arith, within)) off);
  in_other = λ k within off.
      let b = absolute_within prefix k ok within in
      h.in_other k within (less (absolute_of prefix k / line_size) (omega (arith, b)) off);
}

pub fewer_near : (prefix : Option ℕ) (some others : ℕ → Bool) (bytes copy : List ℕ)
    → ((line : ℕ) → line < 4096 → others line ≡ false → some line ≡ false)
    → Near prefix some bytes copy → is_prefix prefix ≡ true → Near prefix others bytes copy
fewer_near prefix some others bytes copy less h ok = λ k within off.
    let b = absolute_within prefix k ok within in
    h k within (less (absolute_of prefix k / line_size) (omega (arith, b)) off)

-- a line that is another one passes a test still
but_other : (test : ℕ → Bool) (line l : ℕ) → l ≢ line → but_at test line false l ≡ false → test l ≡ false
but_other test line l other off =
    let e : (l == line) ≡ false = grind (arith, other) in
    sym (ap (λ b. if b then false else test l) e) ∙ off

-- ---- where a line lies

-- a byte outside of a line is another line's
line_apart : (a line : ℕ) → (a < 256 * line) ⊎ (256 * line + 256 ≤ a) → a / 256 ≢ line
line_apart a line (inl low) e = omega (arith, low, e)
line_apart a line (inr high) e = omega (arith, high, e)

-- where a byte lies by real addresses, by where it lies by absolute ones
module _ (prefix : Option ℕ) (line seen : ℕ) (ok : is_prefix prefix ≡ true)
    (moved : (k : ℕ) → k < 256 → absolute_of prefix (256 * line + k) ≡ 256 * seen + k) where
  -- the line by absolute addresses is seen there
  seen_there : (k : ℕ) → 256 * line ≤ absolute_of prefix k → absolute_of prefix k < 256 * line + 256
      → k ≡ 256 * seen + (absolute_of prefix k - 256 * line)
  seen_there k low high =
      let j = absolute_of prefix k - 256 * line in
      let small : j < 256 = omega (arith, low, high) in
      let here : 256 * line + j ≡ absolute_of prefix k = omega (arith, low) in
      sym (absolute_twice prefix k ok) ∙ ap (absolute_of prefix) (sym here) ∙ moved j small

  -- and what is seen there is that line
  comes_from : (j : ℕ) → j < 256 → absolute_of prefix (256 * seen + j) ≡ 256 * line + j
  comes_from j small = ap (absolute_of prefix) (sym (moved j small)) ∙ absolute_twice prefix (256 * line + j) ok

  seen_apart : (k : ℕ) → (absolute_of prefix k < 256 * line) ⊎ (256 * line + 256 ≤ absolute_of prefix k)
      → (k < 256 * seen) ⊎ (256 * seen + 256 ≤ k)
  seen_apart k apart = by (cases_lt k (256 * seen)) (cases_lt k (256 * seen + 256))
    where
      never : (k < 256 * seen + 256) → 256 * seen ≤ k
          → (absolute_of prefix k < 256 * line) ⊎ (256 * line + 256 ≤ absolute_of prefix k) → ⊥
      never high low out =
          let j = k - 256 * seen in
          let small : j < 256 = omega (arith, low, high) in
          let here : k ≡ 256 * seen + j = omega (arith, low) in
          let from : absolute_of prefix k ≡ 256 * line + j = ap (absolute_of prefix) here ∙ comes_from j small in
          elim out [
            | inl under ↦ omega (arith, from, under)
            | inr over ↦ omega (arith, from, over, small)
          ]

      by : (k < 256 * seen) ⊎ (256 * seen ≤ k) → (k < 256 * seen + 256) ⊎ (256 * seen + 256 ≤ k)
          → (k < 256 * seen) ⊎ (256 * seen + 256 ≤ k)
      by (inl under) _ = inl under
      by (inr from) (inl high) = absurd (never high from apart)
      by (inr from) (inr over) = inr over

-- ---- one line that is kept

module _ (prefix : Option ℕ) (line seen : ℕ) (ok : is_prefix prefix ≡ true)
    (moved : (k : ℕ) → k < 256 → absolute_of prefix (256 * line + k) ≡ 256 * seen + k)
    (copy s t o q : List ℕ)
    (s_copied : (k : ℕ) → k < 256 → get_or t (256 * line + k) 0 ≡ get_or copy (256 * seen + k) 0)
    (s_others : (j : ℕ) → (j < 256 * line) ⊎ (256 * line + 256 ≤ j) → get_or t j 0 ≡ get_or s j 0)
    (o_copied : (k : ℕ) → k < 256 → get_or q (256 * seen + k) 0 ≡ get_or copy (256 * seen + k) 0)
    (o_others : (j : ℕ) → (j < 256 * seen) ⊎ (256 * seen + 256 ≤ j) → get_or q j 0 ≡ get_or o j 0)
    (test : ℕ → Bool) (before : AreKept prefix test copy s o) where
  storage_by : (a : ℕ) → a < storage_size → but_at test line false (a / 256) ≡ false
      → (a < 256 * line) ⊎ (256 * line ≤ a) → (a < 256 * line + 256) ⊎ (256 * line + 256 ≤ a)
      → get_or t a 0 ≡ get_or copy (absolute_of prefix a) 0
  storage_by a within off (inl low) _ =
      s_others a (inl low)
      ∙ before.in_storage a within (but_other test line (a / 256) (line_apart a line (inl low)) off)
  storage_by a within off (inr from) (inl high) =
      let k = a - 256 * line in
      let small : k < 256 = omega (arith, from, high) in
      let here : a ≡ 256 * line + k = omega (arith, from) in
      ap (λ i. get_or t i 0) here ∙ s_copied k small ∙ ap (λ i. get_or copy i 0) (sym (moved k small))
      ∙ ap (λ i. get_or copy (absolute_of prefix i) 0) (sym here)
  storage_by a within off (inr from) (inr over) =
      s_others a (inr over)
      ∙ before.in_storage a within (but_other test line (a / 256) (line_apart a line (inr over)) off)

  other_by : (k : ℕ) → k < storage_size → but_at test line false (absolute_of prefix k / 256) ≡ false
      → (absolute_of prefix k < 256 * line) ⊎ (256 * line ≤ absolute_of prefix k)
      → (absolute_of prefix k < 256 * line + 256) ⊎ (256 * line + 256 ≤ absolute_of prefix k)
      → get_or q k 0 ≡ get_or copy k 0
  other_by k within off (inl low) _ =
      o_others k (seen_apart prefix line seen ok moved k (inl low))
      ∙ before.in_other k within
      (but_other test line (absolute_of prefix k / 256) (line_apart (absolute_of prefix k) line (inl low)) off)
  other_by k within off (inr from) (inl high) =
      let here = seen_there prefix line seen ok moved k from high in
      let j = absolute_of prefix k - 256 * line in
      ap (λ i. get_or q i 0) here ∙ o_copied j (omega (arith, from, high)) ∙ ap (λ i. get_or copy i 0) (sym here)
  other_by k within off (inr from) (inr over) =
      o_others k (seen_apart prefix line seen ok moved k (inr over))
      ∙ before.in_other k within
      (but_other test line (absolute_of prefix k / 256) (line_apart (absolute_of prefix k) line (inr over)) off)

  pub line_kept : AreKept prefix (but_at test line false) copy t q
  line_kept = record {
    in_storage = λ a within off. storage_by a within off (cases_lt a (256 * line)) (cases_lt a (256 * line + 256));
    in_other = λ k within off.
        other_by k within off (cases_lt (absolute_of prefix k) (256 * line))
        (cases_lt (absolute_of prefix k) (256 * line + 256));
  }

-- ---- one line of a copy that is storage again

module _ (prefix : Option ℕ) (line seen : ℕ) (ok : is_prefix prefix ≡ true)
    (moved : (k : ℕ) → k < 256 → absolute_of prefix (256 * line + k) ≡ 256 * seen + k)
    (s o q : List ℕ)
    (copied : (k : ℕ) → k < 256 → get_or q (256 * seen + k) 0 ≡ get_or s (256 * line + k) 0)
    (others : (j : ℕ) → (j < 256 * seen) ⊎ (256 * seen + 256 ≤ j) → get_or q j 0 ≡ get_or o j 0)
    (test : ℕ → Bool) (before : Near prefix test s o) where
  near_by : (k : ℕ) → k < storage_size → but_at test line false (absolute_of prefix k / 256) ≡ false
      → (absolute_of prefix k < 256 * line) ⊎ (256 * line ≤ absolute_of prefix k)
      → (absolute_of prefix k < 256 * line + 256) ⊎ (256 * line + 256 ≤ absolute_of prefix k)
      → get_or q k 0 ≡ get_or s (absolute_of prefix k) 0
  near_by k within off (inl low) _ =
      others k (seen_apart prefix line seen ok moved k (inl low))
      ∙ before k within
      (but_other test line (absolute_of prefix k / 256) (line_apart (absolute_of prefix k) line (inl low)) off)
  near_by k within off (inr from) (inl high) =
      let here = seen_there prefix line seen ok moved k from high in
      let j = absolute_of prefix k - 256 * line in
      let there : 256 * line + j ≡ absolute_of prefix k = omega (arith, from) in
      ap (λ i. get_or q i 0) here ∙ copied j (omega (arith, from, high)) ∙ ap (λ i. get_or s i 0) there
  near_by k within off (inr from) (inr over) =
      others k (seen_apart prefix line seen ok moved k (inr over))
      ∙ before k within
      (but_other test line (absolute_of prefix k / 256) (line_apart (absolute_of prefix k) line (inr over)) off)

  pub line_restored : Near prefix (but_at test line false) s q
  line_restored = λ k within off.
      near_by k within off (cases_lt (absolute_of prefix k) (256 * line))
      (cases_lt (absolute_of prefix k) (256 * line + 256))

-- ---- the lines of a range

pub not_not : (b c : Bool) → not b ≡ not c → b ≡ c
not_not true true e = refl
not_not false false e = refl
not_not true false e = absurd (let x : false ≡ true = e in cc)
not_not false true e = absurd (let x : true ≡ false = e in cc)

-- lines of a span that are no longer to be looked at
abbrev pub outside : (ℕ → Bool) → ℕ → ℕ → ℕ → Bool
outside test first line l = test l && not (lies_in first line l)

no_line : (t b : Bool) → b ≡ false → (t && not b) ≡ false → t ≡ false
no_line true false e off = absurd (let x : true ≡ false = off in cc)
no_line true true e off = absurd (let x : true ≡ false = e in cc)
no_line false b e off = refl

-- none yet, and one more
pub outside_none : (test : ℕ → Bool) (first l : ℕ) → outside test first first l ≡ false → test l ≡ false
outside_none test first l off = no_line (test l) (lies_in first first l) (nothing first l (cases_lt l first)) off
  where
    nothing : (first l : ℕ) → (l < first) ⊎ (first ≤ l) → lies_in first first l ≡ false
    nothing first l (inl low) = grind (arith, low)
    nothing first l (inr high) = grind (arith, high)

pub outside_more : (test : ℕ → Bool) (first line l : ℕ) → first ≤ line → outside test first (line + 1) l ≡ false
    → but_at (outside test first line) line false l ≡ false
outside_more test first line l order off = by (l == line) refl
  where
    still : l ≢ line → lies_in first (line + 1) l ≡ true → lies_in first line l ≡ true
    still other h = grind (arith, other, h)

    drops : (t b c : Bool) → (b ≡ true → c ≡ true) → (t && not b) ≡ false → (t && not c) ≡ false
    drops true true c h off = ap not (h refl)
    drops true false c h off = absurd (let x : true ≡ false = off in cc)
    drops false b c h off = refl

    by : (e : Bool) → (l == line) ≡ e → but_at (outside test first line) line false l ≡ false
    by true e = ap (λ b. if b then false else outside test first line l) e
    by false e =
        let other : l ≢ line = λ same. grind (arith, e, same) in
        ap (λ b. if b then false else outside test first line l) e
        ∙ drops (test l) (lies_in first (line + 1) l) (lies_in first line l) (still other) off

-- the lines of a range are those of its span
abbrev pub without : (ℕ → Bool) → Range → ℕ → Bool
without test r l = test l && not (r.store && has_place line_size r l)

pub no_store : (test : ℕ → Bool) (r : Range) (l : ℕ) → r.store ≡ false → without test r l ≡ false → test l ≡ false
no_store test r l none off =
    no_line (test l) (r.store && has_place line_size r l) (ap (λ b. b && has_place line_size r l) none) off

pub no_length : (test : ℕ → Bool) (r : Range) (l : ℕ) → r.length ≡ 0 → without test r l ≡ false → test l ≡ false
no_length test r l none off =
    no_line (test l) (r.store && has_place line_size r l)
    (none_either r.store ∙ refl) off
  where
    none_either : (b : Bool) → (b && has_place line_size r l) ≡ false
    none_either true = no_bytes line_size r l none
    none_either false = refl

pub whole_range : (test : ℕ → Bool) (r : Range) (l : ℕ) → r.store ≡ true → 0 < r.length → without test r l ≡ false
    → outside test (r.first / 256) ((r.first + r.length - 1) / 256 + 1) l ≡ false
whole_range test r l store some off =
    ap (λ b. test l && not b) (span_is line_size r l (omega arith) some)
    ∙ ap (λ b. test l && not (b && has_place line_size r l)) (sym store) ∙ off

-- ---- ranges one after the other

pub next_range : (ranges : List Range) (i : ℕ) (r : Range) (l : ℕ) → drop i ranges ≡ r ∷ drop (i + 1) ranges
    → stores (drop (i + 1) ranges) l ≡ false → without (stores (drop i ranges)) r l ≡ false
next_range ranges i r l is off =
    ap (λ rs. stores rs l && not (r.store && has_place line_size r l)) is
    ∙ by (r.store && has_place line_size r l) (stores (drop (i + 1) ranges) l) off
  where
    by : (b t : Bool) → t ≡ false → ((b || t) && not b) ≡ false
    by true t e = refl
    by false t e = ap (λ x. x && true) e

pub rest_of : (ranges : List Range) (i : ℕ) (r : Range) → slice_get ranges i ≡ Some r
    → drop i ranges ≡ r ∷ drop (i + 1) ranges
rest_of ranges i r e =
    drop_more ranges i r (slice_get_within ranges i r e)
    ∙ ap (λ x. x ∷ drop (i + 1) ranges) (get_or_from_slice_get ranges i r r e)

pub none_left : (ranges : List Range) (i l : ℕ) → length ranges ≤ i → stores (drop i ranges) l ≡ false
none_left ranges i l past = ap (λ rs. stores rs l) (drop_all i ranges past)

-- ---- lines one after the other

-- lines from one on
abbrev pub later : ℕ → (ℕ → Bool) → ℕ → Bool
later line test l = nat_le line l && test l

pub later_all : (test : ℕ → Bool) (l : ℕ) → later 0 test l ≡ false → test l ≡ false
later_all test l off =
    let e : nat_le 0 l ≡ true = grind arith in sym (ap (λ b. b && test l) e) ∙ off

pub later_none : (test : ℕ → Bool) (from l : ℕ) → ((k : ℕ) → from ≤ k → k < 4096 → test k ≡ false) → l < 4096
    → later from test l ≡ false
later_none test from l none within = by (cases_lt l from)
  where
    by : (l < from) ⊎ (from ≤ l) → later from test l ≡ false
    by (inl low) = let e : nat_le from l ≡ false = grind (arith, low) in ap (λ b. b && test l) e
    by (inr high) = and_right (nat_le from l) (test l) (none l high within)

-- the first one that passes is done
pub later_next : (test : ℕ → Bool) (from at l : ℕ) → ((k : ℕ) → from ≤ k → k < at → test k ≡ false)
    → later (at + 1) test l ≡ false → but_at (later from test) at false l ≡ false
later_next test from at l first off = by (l == at) refl
  where
    rest : l ≢ at → (l < at) ⊎ (at ≤ l) → (l < from) ⊎ (from ≤ l) → later from test l ≡ false
    rest other _ (inl low) = let e : nat_le from l ≡ false = grind (arith, low) in ap (λ b. b && test l) e
    rest other (inl below) (inr high) = and_right (nat_le from l) (test l) (first l high below)
    rest other (inr above) (inr high) =
        let e : nat_le (at + 1) l ≡ true = grind (arith, other, above) in
        and_right (nat_le from l) (test l) (sym (ap (λ b. b && test l) e) ∙ off)

    by : (e : Bool) → (l == at) ≡ e → but_at (later from test) at false l ≡ false
    by true e = ap (λ b. if b then false else later from test l) e
    by false e =
        let other : l ≢ at = λ same. grind (arith, e, same) in
        ap (λ b. if b then false else later from test l) e ∙ rest other (cases_lt l at) (cases_lt l from)

pub later_unmarked : (test : ℕ → Bool) (line l : ℕ) → test line ≡ false → later (line + 1) test l ≡ false
    → later line test l ≡ false
later_unmarked test line l none off = by (cases_lt l line) (cases_lt line l)
  where
    by : (l < line) ⊎ (line ≤ l) → (line < l) ⊎ (l ≤ line) → later line test l ≡ false
    by (inl low) _ = let e : nat_le line l ≡ false = grind (arith, low) in ap (λ b. b && test l) e
    by (inr high) (inl above) =
        let e : nat_le (line + 1) l ≡ true = grind (arith, above) in
        and_right (nat_le line l) (test l) (sym (ap (λ b. b && test l) e) ∙ off)
    by (inr high) (inr below) =
        let here : l ≡ line = omega (arith, high, below) in
        and_right (nat_le line l) (test l) (ap test here ∙ none)

-- ---- another run's copies

pub near_with : (a b : Attempt) (test : ℕ → Bool) (s copy : List ℕ)
    → b ≡ record a { seen = b.seen; lasting = b.lasting } → Near a.turned test s copy → Near b.turned test s copy
near_with a b test s copy is = subst (λ (x : Attempt). Near x.turned test s copy) (sym is)

pub near_before : (a b : Attempt) (test : ℕ → Bool) (s copy : List ℕ)
    → b ≡ record a { seen = b.seen; lasting = b.lasting } → Near b.turned test s copy → Near a.turned test s copy
near_before a b test s copy is = subst (λ (x : Attempt). Near x.turned test s copy) is

pub kept_with : (a b : Attempt) (test : ℕ → Bool) (storage other : List ℕ) → b ≡ record a { lasting = b.lasting }
    → AreKept a.turned test a.seen storage other → AreKept b.turned test b.seen storage other
kept_with a b test storage other is = subst (λ (x : Attempt). AreKept x.turned test x.seen storage other) (sym is)

pub kept_before : (a b : Attempt) (test : ℕ → Bool) (storage other : List ℕ) → b ≡ record a { lasting = b.lasting }
    → AreKept b.turned test b.seen storage other → AreKept a.turned test a.seen storage other
kept_before a b test storage other is = subst (λ (x : Attempt). AreKept x.turned test x.seen storage other) is

-- ---- all lines

pub kept_at_first : (prefix : Option ℕ) (test : ℕ → Bool) (s seen lasting : List ℕ) → is_prefix prefix ≡ true
    → Near prefix test s seen → Near prefix test s lasting → AreKept prefix test seen s lasting
kept_at_first prefix test s seen lasting ok near other = record {
  in_storage = λ a within off.
      let b = absolute_of prefix a in
      let twice = absolute_twice prefix a ok in
      ap (λ i. get_or s i 0) (sym twice)
      ∙ sym (near b (absolute_within prefix a ok within) (ap (λ i. test (i / line_size)) twice ∙ off));
  in_other = λ k within off. other k within off ∙ sym (near k within off);
}

module _ (prefix : Option ℕ) (test : ℕ → Bool) (copy storage other : List ℕ) (ok : is_prefix prefix ≡ true)
    (copy_size : length copy ≡ storage_size) (size : length storage ≡ storage_size)
    (other_size : length other ≡ storage_size) (none : (line : ℕ) → line < 4096 → test line ≡ false)
    (kept : AreKept prefix test copy storage other) where
  pub all_kept : storage ≡ seen_by prefix copy
  all_kept =
      seen_so prefix copy storage ok copy_size size
      (λ a within. kept.in_storage a within (none (a / line_size) (omega (arith, within))))

  copy_is : copy ≡ seen_by prefix storage
  copy_is = seen_so prefix storage copy ok size copy_size (λ k within.
      let b = absolute_of prefix k in
      let inside = absolute_within prefix k ok within in
      ap (λ i. get_or copy i 0) (sym (absolute_twice prefix k ok))
      ∙ sym (kept.in_storage b inside (none (b / line_size) (omega (arith, inside)))))

  other_is : other ≡ copy
  other_is = ext_get_or 0 other copy (other_size ∙ sym copy_size) (λ k h.
      let within : k < storage_size = omega (arith, h, other_size) in
      let inside = absolute_within prefix k ok within in
      kept.in_other k within (none (absolute_of prefix k / line_size) (omega (arith, inside))))

  pub all_ready : (a : Attempt) → a.turned ≡ prefix → a.seen ≡ copy → a.lasting ≡ other → IsReady storage a
  all_ready a turned seen lasting = record {
    prefix_in = ap is_prefix turned ∙ ok;
    seen = seen ∙ copy_is ∙ ap (λ p. seen_by p storage) (sym turned);
    lasting = lasting ∙ other_is ∙ copy_is ∙ ap (λ p. seen_by p storage) (sym turned);
  }

pub all_near : (prefix : Option ℕ) (test : ℕ → Bool) (s copy : List ℕ) → is_prefix prefix ≡ true
    → length s ≡ storage_size → length copy ≡ storage_size → ((line : ℕ) → line < 4096 → test line ≡ false)
    → Near prefix test s copy → copy ≡ seen_by prefix s
all_near prefix test s copy ok size copy_size none near =
    seen_so prefix s copy ok size copy_size (λ k within.
    let inside = absolute_within prefix k ok within in
    near k within (none (absolute_of prefix k / line_size) (omega (arith, inside))))
