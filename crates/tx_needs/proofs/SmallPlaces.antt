-- Ranges by absolute addresses are small, and lie in storage.
use Rattle.std.proofs.Common.{◌≡◌, ℕ, ◌+◌, ◌-◌, ◌<◌, ◌≤◌, true, false, List, [], ◌∷◌, ◌++◌, Option, Some, None}
use Rattle.std.proofs.Common.{refl, sym, ap, subst, ◌∙◌, arith, inl, inr, is_some}
use Rattle.std.specs.Prelude.{All}
use Rattle.std.proofs.lemmas.Bool.{cases_lt}
use Rattle.std.proofs.lemmas.List.Elements.{All-nil, All-cons, All-head, All-tail, All-append}
use Rattle.z_regs.specs.Prefix.{storage_size, is_prefix, absolute_of}
use Rattle.z_regs.specs.Absolute.{IsAccessible, absolute_range, absolute_ranges, to_edge, part_of}
use Rattle.z_regs.specs.declared.ranges.Range.{Range}
use Rattle.z_regs.proofs.Exchange.{area, stays_inside}
use Rattle.z_regs.proofs.MovedBytes.{one_area, two_areas}
use Rattle.tx_meaning.specs.Needs.{stored, interruption_ranges}

-- a small range of storage
pub record IsSmallPlace (r : Range) : Type 0 where
  pub small : r.length ≤ 256
  pub inside : r.first + r.length ≤ storage_size

range-placed : (Q : Range → Type 0) (prefix : Option ℕ) (r : Range)
    → ((s : Range) → IsSmallPlace s → Q s) → is_prefix prefix ≡ true → IsSmallPlace r
    → All Q (absolute_range prefix r)
unfolding absolute_range
range-placed Q None r all ok h = All-cons Q r [] (all r h) (All-nil Q)
range-placed Q (Some p) r all ok h =
    let q = area p ok in
    elim (cases_lt (to_edge r.first) r.length) [
      | inl across ↦
          let here = to_edge r.first in
          let there = r.first + here in
          let edge : here ≤ to_edge r.first = omega arith in
          let first_end : r.first + here ≤ storage_size = omega (arith, h.inside, across) in
          let second_end : there + (r.length - here) ≤ storage_size = omega (arith, h.inside, across) in
          let whole : r.length - here ≤ to_edge there = omega (arith, h.small, across) in
          let first = part_of r (absolute_of (Some p) r.first) here in
          let second = part_of r (absolute_of (Some p) there) (r.length - here) in
          subst (All Q) (sym (two_areas p r across))
          (All-cons Q first (second ∷ [])
          (all first record {
            small = omega (arith, h.small, across);
            inside = stays_inside p r.first here q
                first_end edge;
          })
          (All-cons Q second []
          (all second record {
            small = omega (arith, h.small);
            inside = stays_inside p there
                (r.length - here) q second_end whole;
          })
          (All-nil Q)))
      | inr one ↦
          let whole = part_of r (absolute_of (Some p) r.first) r.length in
          subst (All Q) (sym (one_area p r one))
          (All-cons Q whole []
          (all whole record { small = h.small; inside = stays_inside p r.first r.length q h.inside one })
          (All-nil Q))
    ]

ranges-placed : (Q : Range → Type 0) (prefix : Option ℕ) (ranges : List Range)
    → ((s : Range) → IsSmallPlace s → Q s) → is_prefix prefix ≡ true → All IsSmallPlace ranges
    → All Q (absolute_ranges prefix ranges)
ranges-placed Q prefix [] all ok h = All-nil Q
ranges-placed Q prefix (r ∷ rs) all ok h =
    All-append Q (absolute_range prefix r) (absolute_ranges prefix rs)
    (range-placed Q prefix r all ok (All-head IsSmallPlace r rs h))
    (ranges-placed Q prefix rs all ok (All-tail IsSmallPlace r rs h))

pub ranges-small : (prefix : Option ℕ) (ranges : List Range) → is_prefix prefix ≡ true
    → All IsSmallPlace ranges → All (λ (r : Range). r.length ≤ 256) (absolute_ranges prefix ranges)
ranges-small prefix ranges ok h =
    ranges-placed (λ (r : Range). r.length ≤ 256) prefix ranges (λ s p. p.small) ok h

pub ranges-inside : (prefix : Option ℕ) (ranges : List Range) → is_prefix prefix ≡ true
    → All IsSmallPlace ranges
    → All (λ (r : Range). r.first + r.length ≤ storage_size) (absolute_ranges prefix ranges)
ranges-inside prefix ranges ok h =
    ranges-placed (λ (r : Range). r.first + r.length ≤ storage_size) prefix ranges (λ s p. p.inside) ok h

-- ranges that a CPU may use are such
pub accessible-places : (prefix : Option ℕ) (ranges : List Range) → All (IsAccessible prefix) ranges
    → All IsSmallPlace ranges
accessible-places prefix [] h = All-nil IsSmallPlace
accessible-places prefix (r ∷ rs) h =
    let first = All-head (IsAccessible prefix) r rs h in
    All-cons IsSmallPlace r rs (record { small = first.most; inside = first.end })
    (accessible-places prefix rs (All-tail (IsAccessible prefix) r rs h))

-- ---- a block, and the places of interruptions

pub block-place : (address : ℕ) → address + 256 ≤ storage_size → All IsSmallPlace (stored address 256 ∷ [])
block-place address inside =
    All-cons IsSmallPlace (stored address 256) [] (record { small = omega arith; inside = inside })
    (All-nil IsSmallPlace)

-- a range of the first area goes to one place
low_edge : (first n : ℕ) → 0 < n → first + n ≤ 8192 → n ≤ to_edge first
low_edge first n some low = omega arith

pub low-range : (prefix : Option ℕ) (first n : ℕ) → 0 < n → first + n ≤ 8192
    → absolute_range prefix (stored first n) ≡ stored (absolute_of prefix first) n ∷ []
unfolding absolute_range
low-range None first n some low = refl
low-range (Some p) first n some low = one_area p (stored first n) (low_edge first n some low)

-- ---- what is written to the first area

pub one-place : (prefix : Option ℕ) (r : Range) → prefix ≡ None → r ∷ [] ≡ absolute_ranges prefix (r ∷ [])
unfolding absolute_range
one-place prefix r none = ap (λ (p : Option ℕ). absolute_ranges p (r ∷ [])) (sym none)

three : (prefix : Option ℕ) (rest : List Range)
    → stored (absolute_of prefix 0x8c) 4 ∷ stored (absolute_of prefix 0x150) 16
    ∷ stored (absolute_of prefix 0x1d0) 16 ∷ absolute_ranges prefix rest
    ≡ absolute_ranges prefix (stored 0x8c 4 ∷ stored 0x150 16 ∷ stored 0x1d0 16 ∷ rest)
three prefix rest =
    let first = sym (low-range prefix 0x8c 4 (omega arith) (omega arith)) in
    let second = sym (low-range prefix 0x150 16 (omega arith) (omega arith)) in
    let third = sym (low-range prefix 0x1d0 16 (omega arith) (omega arith)) in
    λ x. first x ++ (second x ++ (third x ++ absolute_ranges prefix rest))

pub interruption-plain : (prefix : Option ℕ) (bytes : Option (List ℕ)) → is_some bytes ≡ false
    → stored (absolute_of prefix 0x8c) 4 ∷ stored (absolute_of prefix 0x150) 16
    ∷ stored (absolute_of prefix 0x1d0) 16 ∷ [] ≡ absolute_ranges prefix (interruption_ranges bytes)
interruption-plain prefix None is = three prefix []
interruption-plain prefix (Some bytes) is = absurd (cc)

pub interruption-block : (prefix : Option ℕ) (bytes : Option (List ℕ)) → is_some bytes ≡ true
    → stored (absolute_of prefix 0x8c) 4 ∷ stored (absolute_of prefix 0x150) 16
    ∷ stored (absolute_of prefix 0x1d0) 16 ∷ stored (absolute_of prefix 0x1800) 256 ∷ []
    ≡ absolute_ranges prefix (interruption_ranges bytes)
interruption-block prefix None is = absurd (cc)
interruption-block prefix (Some bytes) is =
    let last = sym (low-range prefix 0x1800 256 (omega arith) (omega arith)) in
    (λ x. stored (absolute_of prefix 0x8c) 4 ∷ stored (absolute_of prefix 0x150) 16
    ∷ stored (absolute_of prefix 0x1d0) 16 ∷ (last x ++ []))
    ∙ three prefix (stored 0x1800 256 ∷ [])
