-- The instructions of a program, read once: where in a list of them the one at an address stands.
use Rattle.std.specs.Prelude.{◌≡◌, ℕ, ◌*◌, ◌-◌, ◌<◌, ◌≤◌, List, length, Some, slice_get}
use Rattle.std.specs.List.{slice_index_or}
use Rattle.z_regs.specs.Prefix.{storage_size}
use Rattle.tx_program.specs.declared.ready.Ready.{Ready}
use Rattle.tx_program.specs.Shapes.{IsReady}

-- Each halfword of storage may have a number, 0 for none. Of one that has, the instruction with that number,
-- counted from 1, is the one that is read there.
pub record AreRead (storage text numbers : List ℕ) (readies : List Ready) : Type 0 where
  pub size : 2 * length numbers ≡ storage_size
  pub within : (half : ℕ) → slice_index_or numbers half 0 ≤ length readies
  pub ready : (half : ℕ) (r : Ready) → 0 < slice_index_or numbers half 0
      → slice_get readies (slice_index_or numbers half 0 - 1) ≡ Some r → IsReady storage text (2 * half) r
