-- The lines and blocks of ranges of storage.
use Rattle.std.specs.Prelude.{ℕ, ◌+◌, ◌/◌, ◌<◌, ◌≤◌, Bool, true, false, ◌&&◌, ◌||◌, not, ◌==◌, nat_lt, nat_le}
use Rattle.std.specs.Prelude.{List}
use Rattle.std.specs.List.{list_any, range_with_len, slice_index_or}
use Rattle.z_regs.specs.Prefix.{storage_size}
use Rattle.z_regs.specs.declared.ranges.Range.{Range}
use Rattle.line_table.specs.Sizes.{storage_lines}
use Rattle.tx_footprint.specs.declared.places.Kind.{Kind}
use Rattle.tx_footprint.specs.declared.places.Kind.TheVariants.{Line, FetchedLine, StoredLine, StoredBlock}
use Rattle.tx_footprint.specs.Sizes.{line_size, block_size, storage_blocks}

-- the addresses of a range, and its bytes all in storage
abbrev pub addresses : Range → List ℕ
addresses r = range_with_len r.first r.length

abbrev pub IsInStorage : Range → Type 0
IsInStorage r = (address : ℕ) → r.first ≤ address → address < r.first + r.length → address < storage_size

-- whether a place of some size has a byte of the range
unfoldable pub has_place : ℕ → Range → ℕ → Bool
has_place size r place = list_any (λ address. address / size == place) (addresses r)

-- the lines that ranges fetch from, the lines that they store into, and the blocks that they store into
abbrev pub fetches : List Range → ℕ → Bool
fetches ranges line = list_any (λ r. not r.store && has_place line_size r line) ranges

abbrev pub stores : List Range → ℕ → Bool
stores ranges line = list_any (λ r. r.store && has_place line_size r line) ranges

abbrev pub stores_block : List Range → ℕ → Bool
stores_block ranges block = list_any (λ r. r.store && has_place block_size r block) ranges

-- the same by the kind of place, lines whether fetched or stored among them
abbrev pub size_of : Kind → ℕ
size_of Line = line_size
size_of FetchedLine = line_size
size_of StoredLine = line_size
size_of StoredBlock = block_size

abbrev pub places_of : Kind → ℕ
places_of Line = storage_lines
places_of FetchedLine = storage_lines
places_of StoredLine = storage_lines
places_of StoredBlock = storage_blocks

abbrev pub records : Kind → Bool → Bool
records Line store = true
records FetchedLine store = not store
records StoredLine store = store
records StoredBlock store = store

abbrev pub covers : Kind → Range → ℕ → Bool
covers kind r place = records kind r.store && has_place (size_of kind) r place

abbrev pub touched_by : Kind → List Range → ℕ → Bool
touched_by kind ranges place = list_any (λ r. covers kind r place) ranges

-- whether a number lies in a span
abbrev pub lies_in : ℕ → ℕ → ℕ → Bool
lies_in first end k = nat_le first k && nat_lt k end

-- marked already, or touched by the ranges
abbrev pub marked_or_touched : List Bool → Kind → List Range → ℕ → Bool
marked_or_touched marks kind ranges place = slice_index_or marks place false || touched_by kind ranges place
