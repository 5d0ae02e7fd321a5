-- Text pages of storage, and what holds of a state from its start on, so that no byte of theirs ever changes.
use Rattle.std.specs.Prelude.{◌≡◌, ℕ, ◌+◌, ◌<◌, true, false, List, length, Option, Some}
use Rattle.z_regs.specs.Prefix.{area_size, is_prefix, absolute_of, is_accessible}
use Rattle.z_regs.specs.declared.waiting.Waiting.{Waiting}
use Rattle.z_instr.specs.Access.{lies_in}
use Rattle.tx_serial.specs.Flat.{Storage, FlatState, Pending}

-- each byte of a text page is the same before and after
abbrev pub SameText : List ℕ → Storage → Storage → Type 0
SameText text before after = (a : ℕ) → lies_in text a ≡ true → after a ≡ before a

-- the CPU may use the byte at a real address, and it is no text
pub record IsFree (prefix : Option ℕ) (text : List ℕ) (a : ℕ) : Type 0 where
  pub accessible : is_accessible prefix a ≡ true
  pub plain : lies_in text (absolute_of prefix a) ≡ false

-- no byte of the area that a prefix names is text
abbrev pub HasFreeArea : List ℕ → Option ℕ → Type 0
HasFreeArea text prefix = (first a : ℕ) → prefix ≡ Some first → a < area_size
    → lies_in text (first + a) ≡ false

-- a block that is pending has 256 bytes, and each has a place where the CPU may store it
pub record IsPlaced (prefix : Option ℕ) (text : List ℕ) (b : Pending) : Type 0 where
  pub size : length b.bytes ≡ 256
  pub free : (k : ℕ) → k < 256 → IsFree prefix text (b.address + k)

-- an interruption waits on a CPU with a prefix, and where it stores a block, that has 256 bytes
pub record IsAwaited (prefix : Option ℕ) (w : Waiting) : Type 0 where
  pub first : ℕ
  pub area : prefix ≡ Some first
  pub size : (bytes : List ℕ) → w.block ≡ Some bytes → length bytes ≡ 256

-- of all CPUs: the prefix is one that a CPU may have, its area has no text, and neither does what is still
-- to be stored come to lie in text
pub record IsKept (f : FlatState) : Type 0 where
  pub prefixes : (i : ℕ) → is_prefix (f.cpus i).prefix ≡ true
  pub areas : (i : ℕ) → HasFreeArea f.text (f.cpus i).prefix
  pub blocks : (i : ℕ) (b : Pending) → f.pending i ≡ Some b → IsPlaced (f.cpus i).prefix f.text b
  pub interruptions : (i : ℕ) (w : Waiting) → f.waiting i ≡ Some w → IsAwaited (f.cpus i).prefix w
