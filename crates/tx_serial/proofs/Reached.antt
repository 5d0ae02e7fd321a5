-- Operands that pass the test of addressing are accessible, and accessible ranges lie in storage.
use Rattle.std.proofs.Common.{◌≡◌, ℕ, ◌+◌, ◌-◌, ◌≤◌, true, List, [], ◌∷◌, Option, Some, None}
use Rattle.std.proofs.Common.{sym, subst, arith, inl, inr}
use Rattle.std.specs.Prelude.{map, All}
use Rattle.std.specs.List.{list_all}
use Rattle.std.proofs.lemmas.Bool.{cases_lt, and_parts}
use Rattle.std.proofs.lemmas.List.Elements.{All-nil, All-cons, All-head, All-tail, All-append}
use Rattle.z_regs.specs.Prefix.{storage_size, is_prefix, absolute_of}
use Rattle.z_regs.specs.Absolute.{IsAccessible, absolute_range, absolute_ranges, to_edge, part_of}
use Rattle.z_regs.specs.declared.ranges.Range.{Range}
use Rattle.z_regs.proofs.Exchange.{area, stays_inside}
use Rattle.z_regs.proofs.MovedBytes.{one_area, two_areas}
use Rattle.z_instr.specs.Operands.{Span, IsSmall, is_inside}
use Rattle.z_instr.specs.Access.{accessible_pages}
use Rattle.z_touch.specs.Refusals.{range_of}
use Rattle.tx_footprint.specs.Places.{IsInStorage}
use Rattle.tx_serial.proofs.FreeOperands.{accessible_span}

-- ---- by real addresses

pub accessible_spans : (prefix : Option ℕ) (ss : List Span) → All IsSmall ss
    → list_all (is_inside (accessible_pages prefix)) ss ≡ true → All (IsAccessible prefix) (map range_of ss)
accessible_spans prefix [] small inside = All-nil (IsAccessible prefix)
accessible_spans prefix (s ∷ ss) small inside =
    let parts = and_parts (is_inside (accessible_pages prefix) s)
    (list_all (is_inside (accessible_pages prefix)) ss) inside in
    All-cons (IsAccessible prefix) (range_of s) (map range_of ss)
    (accessible_span prefix s (All-head IsSmall s ss small) parts.0)
    (accessible_spans prefix ss (All-tail IsSmall s ss small) parts.1)

-- ---- by absolute addresses

in_storage : (r : Range) → r.first + r.length ≤ storage_size → IsInStorage r
in_storage r h a low high = omega (arith, h, low, high)

range_in_storage : (prefix : Option ℕ) (r : Range) → is_prefix prefix ≡ true → IsAccessible prefix r
    → All IsInStorage (absolute_range prefix r)
unfolding absolute_range
range_in_storage None r ok h = All-cons IsInStorage r [] (in_storage r h.end) (All-nil IsInStorage)
range_in_storage (Some p) r ok h =
    let q = area p ok in
    elim (cases_lt (to_edge r.first) r.length) [
      | inl across ↦
          let here = to_edge r.first in
          let there = r.first + here in
          let left : here ≤ to_edge r.first = omega arith in
          let first_end : r.first + here ≤ storage_size = omega (arith, h.end, across) in
          let second_end : there + (r.length - here) ≤ storage_size = omega (arith, h.end, across) in
          let whole : r.length - here ≤ to_edge there = omega (arith, h.most, across) in
          let first = part_of r (absolute_of (Some p) r.first) here in
          let second = part_of r (absolute_of (Some p) there) (r.length - here) in
          subst (All IsInStorage) (sym (two_areas p r across))
          (All-cons IsInStorage first (second ∷ []) (in_storage first (stays_inside p r.first here q first_end
          left))
          (All-cons IsInStorage second [] (in_storage second (stays_inside p there (r.length - here) q
          second_end whole))
          (All-nil IsInStorage)))
      | inr one ↦
          let whole = part_of r (absolute_of (Some p) r.first) r.length in
          subst (All IsInStorage) (sym (one_area p r one))
          (All-cons IsInStorage whole [] (in_storage whole (stays_inside p r.first r.length q h.end one))
          (All-nil IsInStorage))
    ]

pub ranges_in_storage : (prefix : Option ℕ) (ranges : List Range) → is_prefix prefix ≡ true
    → All (IsAccessible prefix) ranges → All IsInStorage (absolute_ranges prefix ranges)
ranges_in_storage prefix [] ok h = All-nil IsInStorage
ranges_in_storage prefix (r ∷ rs) ok h =
    All-append IsInStorage (absolute_range prefix r) (absolute_ranges prefix rs)
    (range_in_storage prefix r ok (All-head (IsAccessible prefix) r rs h))
    (ranges_in_storage prefix rs ok (All-tail (IsAccessible prefix) r rs h))
