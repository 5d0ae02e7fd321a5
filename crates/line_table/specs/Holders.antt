-- Who holds a line, who stands against a request, and what every table keeps.
use Rattle.std.specs.Prelude.{◌≡◌, ◌≢◌, ℕ, ◌+◌, ◌*◌, ◌<◌, ◌≤◌, Bool, true, false, ◌&&◌, not, ◌==◌, nat_lt}
use Rattle.std.specs.Prelude.{if◌then◌else◌, List, filter, Option, Some, None, is_some}
use Rattle.std.specs.List.{slice_index_or, range_with_len}
use Rattle.bit_set.specs.Counts.{count_below}
use Rattle.line_table.specs.declared.table.Mode.{Mode}
use Rattle.line_table.specs.declared.table.Mode.TheVariants.{Shared, Exclusive}
use Rattle.line_table.specs.Sizes.{storage_lines, held_limit}

-- how each CPU holds each line, where it does
abbrev pub Holders : Type 0
Holders = ℕ → ℕ → Option Mode

-- nobody holds any line
abbrev pub nobody : Holders
nobody cpu line = None

-- the table changed for one CPU and line
abbrev pub holding : Holders → ℕ → ℕ → Option Mode → Holders
holding held cpu line mode c l = if c == cpu && l == line then mode else held c l

-- how many lines a CPU holds
abbrev pub lines_held : Holders → ℕ → ℕ
lines_held held cpu = count_below storage_lines (λ line. is_some (held cpu line))

-- whether another CPU's hold stands against a request: an exclusive one against any, a shared one against
-- an exclusive request
abbrev pub is_against : Mode → Option Mode → Bool
is_against wanted None = false
is_against wanted (Some Exclusive) = true
is_against Shared (Some Shared) = false
is_against Exclusive (Some Shared) = true

-- the other CPUs that stand against a CPU's request for a line, in rising order
unfoldable pub against : ℕ → Holders → ℕ → ℕ → Mode → List ℕ
against cpus held cpu line wanted =
    filter (λ other. not (other == cpu) && is_against wanted (held other line)) (range_with_len 0 cpus)

-- an exclusive holder is alone, and no CPU holds more lines than it may
pub record IsSound (held : Holders) : Type 0 where
  pub alone : (cpu other line : ℕ) → held cpu line ≡ Some Exclusive → other ≢ cpu → held other line ≡ None
  pub within : (cpu : ℕ) → lines_held held cpu ≤ held_limit

-- the first number from `from` on where something is held
pub record IsFirstHeld (modes : ℕ → Option Mode) (from at : ℕ) : Type 0 where
  pub from_on : from ≤ at
  pub held : is_some (modes at) ≡ true
  pub first : (k : ℕ) → from ≤ k → k < at → modes k ≡ None

-- a line that a CPU holds and that is not kept
pub record IsOutside (held : Holders) (cpu : ℕ) (kept : ℕ → Bool) (line : ℕ) : Type 0 where
  pub in_storage : line < storage_lines
  pub held_line : is_some (held cpu line) ≡ true
  pub not_kept : kept line ≡ false

-- what a table is seen as: its CPUs, and the modes of the lines of storage for one CPU after the other
pub record Holdings : Type 0 where
  pub cpus : ℕ
  pub modes : List (Option Mode)

-- how a CPU holds a line; not at all past the last CPU and the last line
unfoldable pub mode_in : Holdings → Holders
mode_in t cpu line =
    if nat_lt line storage_lines then slice_index_or t.modes (cpu * storage_lines + line) None else None
