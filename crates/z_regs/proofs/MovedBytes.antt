-- The bytes of a range by absolute addresses, and the pieces of storage in which they lie.
use Rattle.std.proofs.Common.{◌≡◌, ℕ, zero, suc, ◌+◌, ◌-◌, ◌*◌, ◌/◌, ◌%◌, ◌<◌, ◌≤◌, true, false, cond, nat_le, List, [], ◌∷◌, ◌++◌, map, length, Option, None, Some, ◌↔◌, inl, inr, lit≤, refl, ap, sym, ◌∙◌, arith, append-nil, length-append}
use Rattle.std.specs.List.{range_with_len, flat_map}
use Rattle.std.proofs.lemmas.Bool.{cases_lt}
use Rattle.std.proofs.lemmas.Bool.Decides.{nat_tests}
use Rattle.std.proofs.lemmas.List.{ext_get_or, map-append, map-id}
use Rattle.std.proofs.lemmas.List.FromFn.{length-range_with_len, get_or-range_with_len, length-map-range_with_len, get_or-map-range_with_len}
use Rattle.z_regs.specs.declared.ranges.Range.{Range}
use Rattle.z_regs.specs.Prefix.{area_size, is_prefix, absolute_of}
use Rattle.z_regs.specs.Absolute.{absolute_range, absolute_ranges, addresses_of, to_edge}
use Rattle.z_regs.proofs.Exchange.{IsArea, area, moves}

-- ---- within one area absolute addresses go on as real ones do

pub along : (p a i : ℕ) → IsArea p → a % 8192 + i < 8192 →
    absolute_of (Some p) (a + i) ≡ absolute_of (Some p) a + i
along p a i r h =
    let m = moves p a r.low in
    let n = moves p (a + i) r.low in
    grind (arith, r, m, n, cases_lt a 8192, cases_lt a p, cases_lt a (p + 8192))

within_area : (p first n : ℕ) → IsArea p → n ≤ to_edge first →
    range_with_len (absolute_of (Some p) first) n ≡ map (absolute_of (Some p)) (range_with_len first n)
within_area p first n r h =
    ext_get_or 0 _ _ (length-range_with_len _ n
    ∙ sym (length-map-range_with_len (absolute_of (Some p)) first n)) (λ i k.
    let below : i < n = omega (arith, length-range_with_len (absolute_of (Some p) first) n) in
    get_or-range_with_len _ n i 0 below
    ∙ sym (along p first i r (omega arith))
    ∙ sym (get_or-map-range_with_len (absolute_of (Some p)) first n i (first + i) 0 below refl))

numbers-split : (first m n k : ℕ) → k ≡ m + n →
    range_with_len first k ≡ range_with_len first m ++ range_with_len (first + m) n
numbers-split first zero n k e =
    cc (
      ap (range_with_len first) (let f : k ≡ n = omega arith in f),
      ap (λ a. range_with_len a n) (let g : first + 0 ≡ first = omega arith in g),
    )
numbers-split first (suc m) n k e =
    let more : k ≡ suc (m + n) = omega arith in
    ap (range_with_len first) more
    ∙ ap (λ l. first ∷ l) (numbers-split (first + 1) m n (m + n) refl
    ∙ ap (λ a. range_with_len (first + 1) m ++ range_with_len a n)
    (let g : first + 1 + m ≡ first + suc m = omega arith in g))

-- one range up to the end of an area, and two across it
pub one_area : (p : ℕ) (r : Range) → r.length ≤ to_edge r.first → absolute_range (Some p) r ≡
    record { first = absolute_of (Some p) r.first; length = r.length; store = r.store } ∷ []
unfolding absolute_range
one_area p r h =
    let fits : nat_le r.length (to_edge r.first) ≡ true = grind (arith, nat_tests) in
    ap (λ b. cond b
    (record { first = absolute_of (Some p) r.first; length = r.length; store = r.store } ∷ [])
    (record { first = absolute_of (Some p) r.first; length = to_edge r.first; store = r.store } ∷
    record {
      first = absolute_of (Some p) (r.first + to_edge r.first);
      length = r.length - to_edge r.first;
      store = r.store;
    } ∷ [])) fits

pub two_areas : (p : ℕ) (r : Range) → to_edge r.first < r.length → absolute_range (Some p) r ≡
    record { first = absolute_of (Some p) r.first; length = to_edge r.first; store = r.store } ∷
    record {
      first = absolute_of (Some p) (r.first + to_edge r.first);
      length = r.length - to_edge r.first;
      store = r.store;
    } ∷ []
unfolding absolute_range
two_areas p r h =
    let over : nat_le r.length (to_edge r.first) ≡ false = grind (arith, nat_tests) in
    ap (λ b. cond b
    (record { first = absolute_of (Some p) r.first; length = r.length; store = r.store } ∷ [])
    (record { first = absolute_of (Some p) r.first; length = to_edge r.first; store = r.store } ∷
    record {
      first = absolute_of (Some p) (r.first + to_edge r.first);
      length = r.length - to_edge r.first;
      store = r.store;
    } ∷ [])) over

-- the absolute ranges of a range have its bytes, in order
pub same_bytes : (prefix : Option ℕ) (r : Range) → is_prefix prefix ≡ true → r.length ≤ area_size →
    flat_map addresses_of (absolute_range prefix r) ≡ map (absolute_of prefix) (addresses_of r)
unfolding absolute_range
same_bytes None r h small = append-nil (addresses_of r) ∙ sym (map-id (addresses_of r))
same_bytes (Some p) r h small =
    let a = area p h in
    let here = to_edge r.first in
    elim (cases_lt here r.length) [
      | inl across ↦
          ap (flat_map addresses_of) (two_areas p r across)
          ∙ ap (λ l. range_with_len (absolute_of (Some p) r.first) here ++ l) (append-nil _)
          ∙ (λ i. within_area p r.first here a (let e : here ≤ here = omega arith in e) i
          ++ within_area p (r.first + here) (r.length - here) a
          (let e : r.length - here ≤ to_edge (r.first + here) = omega arith in e) i)
          ∙ sym (map-append (absolute_of (Some p)) (range_with_len r.first here)
          (range_with_len (r.first + here) (r.length - here)))
          ∙ ap (map (absolute_of (Some p)))
          (sym (numbers-split r.first here (r.length - here) r.length (omega arith)))
      | inr one ↦
          ap (flat_map addresses_of) (one_area p r one)
          ∙ append-nil _ ∙ within_area p r.first r.length a one
    ]

-- ---- pieces whose size divides that of an area

octowords : (p a b : ℕ) → IsArea p → (absolute_of (Some p) a / 32 ≡ absolute_of (Some p) b / 32) ↔
    (a / 32 ≡ b / 32)
octowords p a b r =
    let m = moves p a r.low in
    let n = moves p b r.low in (
      λ h. grind (
        arith,
        h,
        r,
        m,
        n,
        cases_lt a 8192,
        cases_lt a p,
        cases_lt a (p + 8192),
        cases_lt b 8192,
        cases_lt b p,
        cases_lt b (p + 8192),
      ),
      λ h. grind (
        arith,
        h,
        r,
        m,
        n,
        cases_lt a 8192,
        cases_lt a p,
        cases_lt a (p + 8192),
        cases_lt b 8192,
        cases_lt b p,
        cases_lt b (p + 8192),
      ),
    )

pages : (p a b : ℕ) → IsArea p → (absolute_of (Some p) a / 4096 ≡ absolute_of (Some p) b / 4096) ↔
    (a / 4096 ≡ b / 4096)
pages p a b r =
    let m = moves p a r.low in
    let n = moves p b r.low in (
      λ h. grind (
        arith,
        h,
        r,
        m,
        n,
        cases_lt a 8192,
        cases_lt a p,
        cases_lt a (p + 8192),
        cases_lt b 8192,
        cases_lt b p,
        cases_lt b (p + 8192),
      ),
      λ h. grind (
        arith,
        h,
        r,
        m,
        n,
        cases_lt a 8192,
        cases_lt a p,
        cases_lt a (p + 8192),
        cases_lt b 8192,
        cases_lt b p,
        cases_lt b (p + 8192),
      ),
    )

pub same_octowords : (prefix : Option ℕ) (a b : ℕ) → is_prefix prefix ≡ true →
    (absolute_of prefix a / 32 ≡ absolute_of prefix b / 32) ↔ (a / 32 ≡ b / 32)
same_octowords None a b h = (λ e. e, λ e. e)
same_octowords (Some p) a b h = octowords p a b (area p h)

pub same_pages : (prefix : Option ℕ) (a b : ℕ) → is_prefix prefix ≡ true →
    (absolute_of prefix a / 4096 ≡ absolute_of prefix b / 4096) ↔ (a / 4096 ≡ b / 4096)
same_pages None a b h = (λ e. e, λ e. e)
same_pages (Some p) a b h = pages p a b (area p h)

pub at_most_two : (prefix : Option ℕ) (r : Range) → length (absolute_range prefix r) ≤ 2
unfolding absolute_range
at_most_two None r = lit≤ tt
at_most_two (Some p) r = elim (cases_lt (to_edge r.first) r.length) [
  | inl across ↦ let e = ap length (two_areas p r across) in omega (arith, e)
  | inr one ↦ let e = ap length (one_area p r one) in omega (arith, e)
]

pub doubleword_whole : (prefix : Option ℕ) (r : Range) → r.first % 8 ≡ 0 → r.length ≤ 8 →
    length (absolute_range prefix r) ≡ 1
unfolding absolute_range
doubleword_whole None r aligned small = refl
doubleword_whole (Some p) r aligned small = ap length (one_area p r (omega arith))

-- ---- the ranges of an instruction, one after the other

pub few_ranges : (prefix : Option ℕ) (ranges : List Range) →
    length (absolute_ranges prefix ranges) ≤ 2 * length ranges
few_ranges prefix [] = lit≤ tt
few_ranges prefix (r ∷ ranges) =
    omega (
      arith,
      length-append (absolute_range prefix r) (absolute_ranges prefix ranges),
      at_most_two prefix r,
      few_ranges prefix ranges,
    )

-- without a prefix the ranges stay as they are
pub ranges_stay : (ranges : List Range) → absolute_ranges None ranges ≡ ranges
unfolding absolute_range
ranges_stay [] = refl
ranges_stay (r ∷ rs) = ap (λ (xs : List Range). r ∷ xs) (ranges_stay rs)
