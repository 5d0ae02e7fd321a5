-- Where copies of storage may differ from it, and what storage has taken over of them.
use Rattle.std.specs.Prelude.{◌≡◌, ℕ, ◌<◌, ◌/◌, Bool, false, List, Option, get_or}
use Rattle.z_regs.specs.Prefix.{storage_size, absolute_of}
use Rattle.tx_footprint.specs.Sizes.{line_size}

-- a copy, by real addresses, differs from these bytes in lines alone that pass a test
abbrev pub Near : Option ℕ → (ℕ → Bool) → List ℕ → List ℕ → Type 0
Near prefix test bytes copy =
    (k : ℕ) → k < storage_size → test (absolute_of prefix k / line_size) ≡ false
    → get_or copy k 0 ≡ get_or bytes (absolute_of prefix k) 0

-- storage and another copy are the same as a copy, in all lines that do not pass a test
pub record AreKept (prefix : Option ℕ) (test : ℕ → Bool) (copy storage other : List ℕ) : Type 0 where
  pub in_storage : (a : ℕ) → a < storage_size → test (a / line_size) ≡ false
      → get_or storage a 0 ≡ get_or copy (absolute_of prefix a) 0
  pub in_other : (k : ℕ) → k < storage_size → test (absolute_of prefix k / line_size) ≡ false
      → get_or other k 0 ≡ get_or copy k 0
