-- What the contracts of a store cache speak of: the stores of an attempt, and what lasts of them where the
-- attempt ends in an abort.
use Rattle.std.specs.Prelude.{◌≡◌, ℕ, ◌/◌, ◌%◌, ◌≤◌, Bool, ◌||◌, nat_lt, None}
use Rattle.std.specs.Prelude.{slice_get}
use Rattle.std.specs.Option.{option_and_then}
use Rattle.byteorder.specs.Endian.{big_bytes}
use Rattle.z_regs.specs.Prefix.{storage_size}
use Rattle.store_cache.specs.Sizes.{block_limit}
use Rattle.store_cache.specs.Overlay.{Overlay, nothing, with_one, with_bytes, has_block, block_count}

-- the last byte stored at each address, by whatever instruction, and the last value that NTSTG gave each
-- doubleword, by the doubleword's number, which is its address divided by 8
pub record Stores : Type 0 where
  pub overlay : Overlay
  pub lasting : Overlay

abbrev pub no_stores : Stores
no_stores = record { overlay = nothing; lasting = nothing }

-- a byte is stored
abbrev pub with_store : Stores → ℕ → ℕ → Stores
with_store stores address byte = record {
  overlay = with_one stores.overlay address byte;
  lasting =
      stores.lasting;
}

-- NTSTG stores a doubleword
abbrev pub with_ntstg : Stores → ℕ → ℕ → Stores
with_ntstg stores address value =
    record {
      overlay = with_bytes stores.overlay address (big_bytes 8 value);
      lasting = with_one stores.lasting (address / 8) value;
    }

-- the bytes that last where the attempt ends in an abort: those of each doubleword's last value
unfoldable pub lasting_bytes : Overlay → Overlay
lasting_bytes lasting address = option_and_then (λ value. slice_get (big_bytes 8 value) (address % 8))
    (lasting (address / 8))

-- whether a byte of a block may be stored
abbrev pub has_room : Overlay → ℕ → Bool
has_room overlay block = has_block overlay block || nat_lt (block_count overlay) block_limit

-- not too many blocks are stored, and all of them in storage
pub record IsSound (stores : Stores) : Type 0 where
  pub few : block_count stores.overlay ≤ block_limit
  pub in_storage : (address : ℕ) → storage_size ≤ address → stores.overlay address ≡ None
