-- What a table keeps beside what it is seen as.
use Rattle.std.specs.Prelude.{◌≡◌, ℕ, ◌+◌, ◌*◌, ◌%◌, ◌^◌, ◌<◌, ◌≤◌, Bool, true, false, List, length, map}
use Rattle.std.specs.Prelude.{Option, Some, None}
use Rattle.std.specs.List.{slice_index_or, range_with_len}
use Rattle.bit_set.specs.Counts.{count_below}
use Rattle.line_table.specs.declared.table.Mode.{Mode}
use Rattle.line_table.specs.declared.table.Mode.TheVariants.{Shared, Exclusive}
use Rattle.line_table.specs.Sizes.{storage_lines, held_limit}

-- the mode of a line that is held or not, and exclusively or not
abbrev pub mode_from : Bool → Bool → Option Mode
mode_from false exclusive = None
mode_from true true = Some Exclusive
mode_from true false = Some Shared

-- the modes of all lines, for one CPU after the other
unfoldable pub modes_of : ℕ → List Bool → List Bool → List (Option Mode)
modes_of cpus held exclusive =
    map (λ k. mode_from (slice_index_or held k false) (slice_index_or exclusive (k % storage_lines) false))
    (range_with_len 0 (cpus * storage_lines))

-- a row of line marks for each CPU, a row of CPU marks for each line, a mark for each line that is held
-- exclusively, and the number of lines of each CPU, all in agreement
pub record IsKept (width : ℕ) (held holders exclusive : List Bool) (counts : List ℕ) : Type 0 where
  pub few : length counts < 2 ^ 32
  pub wide : length counts ≤ width
  pub narrow : width < length counts + 64
  pub held_size : length held ≡ length counts * storage_lines
  pub holders_size : length holders ≡ width * storage_lines
  pub exclusive_size : length exclusive ≡ storage_lines
  pub both : (cpu line : ℕ) → cpu < length counts → line < storage_lines
      → slice_index_or holders (line * width + cpu) false
      ≡ slice_index_or held (cpu * storage_lines + line) false
  pub alone : (cpu other line : ℕ) → line < storage_lines → slice_index_or exclusive line false ≡ true
      → slice_index_or held (cpu * storage_lines + line) false ≡ true
      → slice_index_or held (other * storage_lines + line) false ≡ true → other ≡ cpu
  pub counted : (cpu : ℕ) → cpu < length counts
      → slice_index_or counts cpu 0 ≡ count_below storage_lines
      (λ line. slice_index_or held (cpu * storage_lines + line) false)
  pub within : (cpu : ℕ) → cpu < length counts → slice_index_or counts cpu 0 ≤ held_limit
