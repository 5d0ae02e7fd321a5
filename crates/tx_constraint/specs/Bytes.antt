-- The bytes of operands, and the pieces of storage that they lie in.
use Rattle.std.specs.Prelude.{ℕ, ◌+◌, ◌-◌, ◌/◌, ◌%◌, Bool, ◌||◌, ◌==◌, nat_eq, nat_le, if◌then◌else◌, List, map}
use Rattle.std.specs.List.{list_any, range_with_len}
use Rattle.z_regs.specs.declared.ranges.Range.{Range}

-- the numbers of the pieces of some size that hold the operand's bytes, one for each byte: its pages or its
-- octowords
abbrev pub pieces : ℕ → Range → List ℕ
pieces size r = map (λ address. address / size) (range_with_len r.first r.length)

-- the operand lies in one piece of some size
abbrev pub lies_in_one : ℕ → Range → Bool
lies_in_one size r = nat_le (r.first % size + r.length) size

-- the page has the first or the last of the 256 bytes that begin at an address
abbrev pub is_own_page : ℕ → ℕ → Bool
is_own_page begin page = nat_eq page (begin / 4096) || nat_eq page ((begin + 255) / 4096)

-- a byte of the operand lies in such a page
abbrev pub touches_own_page : ℕ → Range → Bool
touches_own_page begin r = list_any (is_own_page begin) (pieces 4096 r)

-- the first of the operand's pieces, and the one behind the last
abbrev pub first_piece : ℕ → Range → ℕ
first_piece size r = r.first / size

abbrev pub end_piece : ℕ → Range → ℕ
end_piece size r = if r.length == 0 then first_piece size r else (r.first + r.length - 1) / size + 1
