-- What is due for commands that run no machine: a status, and the text that is written with it.
use Rattle.std.specs.Prelude.{◌≡◌, ℕ, ◌⊎◌, List}
use Rattle.tx_gen.specs.Programs.{listing_of}
use Rattle.tx_journal.specs.Content.{Content}
use Rattle.z_assemble.specs.Whole.{Stands, FirstFault}
use Rattle.z_assemble.specs.Words.{fault_line}
use Rattle.z_assemble.specs.declared.fault.ListingFault.{ListingFault}
use Rattle.z_list.specs.Listing.{list_of}

-- the statuses of answers
abbrev pub IsStatus : ℕ → Type 0
IsStatus status = (status ≡ 0) ⊎ ((status ≡ 5) ⊎ (status ≡ 6))

-- and those of judged reports, which may be refused
abbrev pub IsAnyStatus : ℕ → Type 0
IsAnyStatus status = IsStatus status ⊎ (status ≡ 7)

-- the input is no listing: 5, and the line of its first fault
pub record IsRefusal (input : List ℕ) (status : ℕ) (text : List ℕ) : Type 0 where
  pub fault : ListingFault
  pub first : FirstFault input fault
  pub status_is : status ≡ 5
  pub text_is : text ≡ fault_line fault

-- the fault of an input that has more bytes than a listing may have
abbrev pub long_fault : ListingFault
long_fault = record { line = 0; kind = 1 }

-- 0, and the instructions of the listing's image
pub record IsDisassembly (input : List ℕ) (status : ℕ) (text : List ℕ) : Type 0 where
  pub image : Content
  pub stands : Stands input image
  pub status_is : status ≡ 0
  pub text_is : text ≡ list_of image

-- 0, and the generator's listing for a number
pub record IsGenerated (number status : ℕ) (text : List ℕ) : Type 0 where
  pub status_is : status ≡ 0
  pub text_is : text ≡ listing_of number

-- ---- due to an input

abbrev pub IsDueToList : List ℕ → ℕ → List ℕ → Type 0
IsDueToList input status text = IsRefusal input status text ⊎ IsDisassembly input status text
