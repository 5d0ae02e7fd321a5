-- What it is to assemble the listing of a deck.
use Rattle.std.specs.Prelude.{◌≡◌, ℕ, ◌<◌, List, length, slice_index, Option, Some}
use Rattle.tx_journal.specs.Content.{Content}
use Rattle.z_assemble.specs.Whole.{Stands}
use Rattle.z_deck.specs.Listing.{listing_of}
use Rattle.z_deck.specs.Writing.{first_entry}

-- what each deck keeps: bytes for all of storage, zeros where programs have no access, an entry in storage
pub record IsKept (storage : List ℕ) (entry : Option ℕ) : Type 0 where
  pub size : length storage ≡ 1048576
  pub bytes : (address : ℕ) → slice_index storage address < 256
  pub low : (address : ℕ) → address < 8192 → slice_index storage address ≡ 0
  pub within : (address : ℕ) → entry ≡ Some address → address < 1048576

-- the assembler has an image for the listing, with this storage, and where there is an entry CPU 0 enters there
pub record IsAssembled (storage : List ℕ) (entry : Option ℕ) : Type 0 where
  pub image : Content
  pub stands : Stands (listing_of storage entry) image
  pub storage_is : image.storage ≡ storage
  pub enters : (address : ℕ) → entry ≡ Some address → first_entry image.cpus ≡ address
