-- A store cache as data: an entry for each stored block, with a mark for each byte and each doubleword.
use Rattle.std.specs.Prelude.{◌≡◌, ℕ, ◌+◌, ◌*◌, ◌/◌, ◌%◌, ◌≤◌, Bool, false, if◌then◌else◌, List}
use Rattle.std.specs.Prelude.{length, Some, None, slice_index}
use Rattle.std.specs.List.{slice_index_or}
use Rattle.std.specs.Option.{option_and_then}
use Rattle.slot_index.specs.Slots.{Slots, slot_in, is_key}
use Rattle.store_cache.specs.Sizes.{storage_blocks, block_size, block_doublewords, block_limit}
use Rattle.store_cache.specs.Overlay.{Overlay, has_block}
use Rattle.store_cache.specs.Stores.{Stores}

-- the blocks in the order of their entries, and for each entry in turn its bytes and the values that NTSTG
-- gave its doublewords; what has no mark is of no account
pub record Entries : Type 0 where
  pub blocks : List ℕ
  pub bytes : List ℕ
  pub marks : List Bool
  pub values : List ℕ
  pub value_marks : List Bool

-- the marked items of entries that have so many each
unfoldable pub items_of : ℕ → List ℕ → List ℕ → List Bool → Overlay
items_of size blocks items marks place =
    option_and_then
    (λ slot. let cell = slot * size + place % size in if slice_index_or marks cell false then Some
    (slice_index items cell) else None)
    (slot_in blocks (place / size))

unfoldable pub stores_of : Entries → Stores
stores_of entries =
    record {
      overlay = items_of block_size entries.blocks entries.bytes entries.marks;
      lasting = items_of block_doublewords entries.blocks entries.values entries.value_marks;
    }

-- room for all entries, no mark behind those in use, and a stored byte in each of these
pub record IsKept (index : Slots) (bytes : List ℕ) (marks : List Bool) (values : List ℕ)
    (value_marks : List Bool) : Type 0 where
  pub limit : index.limit ≡ storage_blocks
  pub most : index.most ≡ block_limit
  pub byte_room : length bytes ≡ block_limit * block_size
  pub mark_room : length marks ≡ block_limit * block_size
  pub value_room : length values ≡ block_limit * block_doublewords
  pub value_mark_room : length value_marks ≡ block_limit * block_doublewords
  pub unmarked : (cell : ℕ) → length index.keys * block_size ≤ cell → slice_index_or marks cell false ≡ false
  pub no_value : (cell : ℕ) → length index.keys * block_doublewords ≤ cell
      → slice_index_or value_marks cell false ≡ false
  pub stored : (block : ℕ) → has_block (items_of block_size index.keys bytes marks) block ≡ is_key index.keys
      block
