-- Lines, each with a mode or without.
use Rattle.std.specs.Prelude.{◌≡◌, ℕ, Bool, true, false, if◌then◌else◌, ◌==◌, List, [], ◌∷◌, length}
use Rattle.std.specs.Prelude.{Option, Some, None}
use Rattle.std.specs.List.{slice_index_or}
use Rattle.line_table.specs.declared.table.Mode.{Mode}
use Rattle.line_table.specs.declared.table.Mode.TheVariants.{Shared, Exclusive}
use Rattle.line_table.specs.Sizes.{storage_lines}
use Rattle.tx_lending.specs.Asking.{is_there}
use Rattle.tx_lending.specs.Need.{Need}

-- the lines of some mode, and those among them that are exclusive
pub record Marks : Type 0 where
  pub any : List Bool
  pub exclusive : List Bool

-- there is a mark for each line of storage, and exclusive lines are among those of some mode
pub record AreKept (any exclusive : List Bool) : Type 0 where
  pub any_size : length any ≡ storage_lines
  pub exclusive_size : length exclusive ≡ storage_lines
  pub among : (line : ℕ) → slice_index_or exclusive line false ≡ true → slice_index_or any line false ≡ true

abbrev pub mode_in : Marks → ℕ → Option Mode
mode_in m line =
    if slice_index_or m.exclusive line false then Some Exclusive
    else (if slice_index_or m.any line false then Some Shared else None)

-- a mode beside one that is there already: the stronger of them
abbrev pub with_mode : Mode → Option Mode → Option Mode
with_mode Exclusive there = Some Exclusive
with_mode Shared (Some Exclusive) = Some Exclusive
with_mode Shared (Some Shared) = Some Shared
with_mode Shared None = Some Shared

-- lines with one more need
abbrev pub with_need : Need → (ℕ → Option Mode) → ℕ → Option Mode
with_need need modes line = if line == need.line then with_mode need.mode (modes line) else modes line

-- and with several
unfoldable pub with_needs : List Need → (ℕ → Option Mode) → ℕ → Option Mode
with_needs [] modes = modes
with_needs (need ∷ rest) modes = with_needs rest (with_need need modes)

-- the first of some needs whose line is not there in its mode
unfoldable pub first_missing : List Need → (ℕ → Option Mode) → Option ℕ
first_missing [] modes = None
first_missing (need ∷ rest) modes =
    if is_there need.mode (modes need.line) then first_missing rest modes else Some need.line
