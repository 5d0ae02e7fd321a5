-- Stores that lie over storage: for each address the last byte stored there, if any.
use Rattle.std.specs.Prelude.{ℕ, ◌+◌, ◌-◌, ◌*◌, Bool, ◌&&◌, ◌==◌, nat_lt, nat_le, if◌then◌else◌, List}
use Rattle.std.specs.Prelude.{length, map, fold, Option, None, Some, is_some, unwrap_or, slice_index}
use Rattle.std.specs.Prelude.{slice_set, slice_get}
use Rattle.std.specs.List.{range_with_len}
use Rattle.bit_set.specs.Counts.{count_below}
use Rattle.store_cache.specs.Sizes.{storage_blocks, block_size}

-- the last number stored at each place, if any
abbrev pub Overlay : Type 0
Overlay = ℕ → Option ℕ

abbrev pub nothing : Overlay
nothing place = None

-- one more number is stored
abbrev pub with_one : Overlay → ℕ → ℕ → Overlay
with_one overlay at number place = if place == at then Some number else overlay place

-- bytes are stored from an address on
unfoldable pub with_bytes : Overlay → ℕ → List ℕ → Overlay
with_bytes overlay first bytes address =
    if nat_le first address && nat_lt address (first + length bytes) then slice_get bytes (address - first)
    else overlay address

-- a byte as it is seen through an overlay: the last one stored there, else that of the base
abbrev pub byte_through : Overlay → List ℕ → ℕ → ℕ
byte_through overlay base address = unwrap_or (overlay address) (slice_index base address)

-- all bytes of a base as they are seen through an overlay
unfoldable pub bytes_through : Overlay → List ℕ → List ℕ
bytes_through overlay base = map (byte_through overlay base) (range_with_len 0 (length base))

-- ---- stores in program order

pub record Store : Type 0 where
  pub address : ℕ
  pub byte : ℕ

abbrev pub overlay_of : List Store → Overlay
overlay_of stores = fold (λ overlay store. with_one overlay store.address store.byte) nothing stores

-- a base into which the stores went, one after the other
abbrev pub stored_in : List ℕ → List Store → List ℕ
stored_in base stores = fold (λ bytes store. slice_set bytes store.address store.byte) base stores

-- ---- blocks

-- whether a byte of a block was stored
unfoldable pub has_block : Overlay → ℕ → Bool
has_block overlay block = nat_lt 0 (count_below block_size
    (λ at. is_some (overlay (block * block_size + at))))

-- how many blocks have a stored byte
abbrev pub block_count : Overlay → ℕ
block_count overlay = count_below storage_blocks (has_block overlay)
