-- The first number from a place on that passes a test.
use Rattle.std.specs.Prelude.{ℕ, ◌-◌, Bool, ◌&&◌, not, ◌==◌, List, [], ◌∷◌, Option, Some, None}
use Rattle.std.specs.List.{filter, range_with_len}
use Rattle.line_table.specs.declared.table.Mode.{Mode}
use Rattle.line_table.specs.Holders.{Holders, is_against}

-- the numbers from a place on, and below an end, that pass a test
unfoldable pub passing_from : (ℕ → Bool) → ℕ → ℕ → List ℕ
passing_from test end from = filter test (range_with_len from (end - from))

abbrev pub first_of : List ℕ → Option ℕ
first_of [] = None
first_of (n ∷ rest) = Some n

-- another CPU whose hold stands against a CPU's request for a line
abbrev pub stands_against : Holders → ℕ → ℕ → Mode → ℕ → Bool
stands_against held cpu line wanted other = not (other == cpu) && is_against wanted (held other line)

abbrev pub next_against : ℕ → Holders → ℕ → ℕ → Mode → ℕ → Option ℕ
next_against cpus held cpu line wanted from =
    first_of (passing_from (stands_against held cpu line wanted) cpus from)
