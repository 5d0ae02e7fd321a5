-- Stores of an instruction that are gathered in a store cache.
use Rattle.std.specs.Prelude.{◌≡◌, ℕ, ◌+◌, ◌<◌, ◌≤◌, ◌/◌, ◌%◌, Bool, true, List, [], ◌∷◌, Option}
use Rattle.std.specs.Prelude.{take}
use Rattle.byteorder.specs.Endian.{big_bytes}
use Rattle.z_regs.specs.declared.ranges.Range.{Range}
use Rattle.bit_set.specs.Counts.{count_below}
use Rattle.z_regs.specs.Prefix.{absolute_of}
use Rattle.store_cache.specs.Overlay.{Overlay, has_block}
use Rattle.store_cache.specs.Stores.{Stores}
use Rattle.store_cache.specs.Sizes.{storage_blocks, block_size, block_limit}
use Rattle.tx_serial.specs.Flat.{stores_at}
use Rattle.tx_progress.specs.Progress.{laying}

-- There is room for so many bytes from a real address on: all blocks that are stored already, and those of
-- these bytes, are among some blocks that are not too many.
pub record HasRoomFor (overlay : Overlay) (prefix : Option ℕ) (first length : ℕ) : Type 0 where
  pub blocks : ℕ → Bool
  pub few : count_below storage_blocks blocks ≤ block_limit
  pub covers : (block : ℕ) → has_block overlay block ≡ true → blocks block ≡ true
  pub there : (k : ℕ) → k < length → blocks (absolute_of prefix (first + k) / block_size) ≡ true

-- with bytes stored from a real address on
abbrev pub with_gathered : Option ℕ → ℕ → List ℕ → Stores → Stores
with_gathered prefix first bytes stores = record {
  overlay = laying stores.overlay (stores_at prefix first bytes);
  lasting = stores.lasting;
}

-- the only operand is a doubleword on its boundary, into which this value is stored
pub record IsDoubleword (need : List Range) (bytes : List ℕ) (value : ℕ) : Type 0 where
  pub first : ℕ
  pub is : need ≡ record { first = first; length = 8; store = true } ∷ []
  pub boundary : first % 8 ≡ 0
  pub bytes_are : take 8 bytes ≡ big_bytes 8 value

-- the only operand is a doubleword on its boundary
pub record IsStoredDoubleword (need : List Range) : Type 0 where
  pub first : ℕ
  pub is : need ≡ record { first = first; length = 8; store = true } ∷ []
  pub boundary : first % 8 ≡ 0
