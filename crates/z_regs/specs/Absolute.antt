-- Ranges of storage by absolute addresses.
use Rattle.std.specs.Prelude.{ℕ, ◌+◌, ◌-◌, ◌%◌, ◌≤◌, nat_le, cond, IsTrue, List, [], ◌∷◌, Option, None, Some}
use Rattle.std.specs.List.{range_with_len, flat_map}
use Rattle.z_regs.specs.declared.ranges.Range.{Range}
use Rattle.z_regs.specs.Prefix.{area_size, storage_size, absolute_of, is_accessible}

-- the bytes that one operand of an instruction may have on a CPU with this prefix: at most 256, all
-- accessible
pub record IsAccessible (prefix : Option ℕ) (r : Range) : Type 0 where
  pub first : IsTrue (is_accessible prefix r.first)
  pub end : r.first + r.length ≤ storage_size
  pub most : r.length ≤ 256

-- some of the bytes of a range: a number of them from an address on
abbrev pub part_of : Range → ℕ → ℕ → Range
part_of r first length = record { first = first; length = length; store = r.store }

-- how many bytes there are from an address to the end of its area
abbrev pub to_edge : ℕ → ℕ
to_edge a = area_size - a % area_size

-- the bytes of a range that begins at a real address, by absolute addresses: a CPU with a prefix may see two
-- areas
-- side by side that lie apart
unfoldable pub absolute_range : Option ℕ → Range → List Range
absolute_range None r = r ∷ []
absolute_range (Some p) r =
    let here = to_edge r.first in
    cond (nat_le r.length here)
    (part_of r (absolute_of (Some p) r.first) r.length ∷ [])
    (part_of r (absolute_of (Some p) r.first) here ∷
    part_of r (absolute_of (Some p) (r.first + here)) (r.length - here) ∷ [])

-- those of each range, in order
abbrev pub absolute_ranges : Option ℕ → List Range → List Range
absolute_ranges prefix ranges = flat_map (absolute_range prefix) ranges

-- the addresses of the bytes of a range
abbrev pub addresses_of : Range → List ℕ
addresses_of r = range_with_len r.first r.length
