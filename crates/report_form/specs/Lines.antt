-- Lines against the rows that are due: whether each row has its line, and the first that has none.
use Rattle.std.specs.Prelude.{◌≡◌, ℕ, suc, ◌+◌, ◌≤◌, ◌⊎◌, List, [], ◌∷◌, replicate, length, drop, Result}
use Rattle.std.specs.Prelude.{Ok, Err}
use Rattle.std.specs.List.{flat_map}
use Rattle.report_form.specs.declared.lines.Part.{Part}
use Rattle.report_form.specs.declared.places.Place.{Place}
use Rattle.report_form.specs.declared.rows.Row.{Row}
use Rattle.report_form.specs.Rows.{IsRow}
use Rattle.report_form.specs.Text.{lines_of, IsPlace}

-- the rows one by one
abbrev pub rows_of : List Part → List Row
rows_of parts = flat_map (λ (p : Part). replicate p.count p.row) parts

-- each row has its line, in order; further lines may stand behind them
abbrev pub Fit : ℕ → List Row → List (List ℕ) → Type 0
Fit last [] lines = Unit {0}
Fit last (row ∷ rows) [] = ⊥
Fit last (row ∷ rows) (line ∷ lines) = IsRow last row line × Fit last rows lines

-- a fault of a later line, counted from the line behind this one
pub record Later (Fault : ℕ → Type 0) (number : ℕ) : Type 0 where
  pub before : ℕ
  pub counted : number ≡ suc before
  pub fault : Fault before

-- the line with this number, counted from 1, is the first that is missing or of another form
abbrev pub Faulty : ℕ → List Row → List (List ℕ) → ℕ → Type 0
Faulty last [] lines number = ⊥
Faulty last (row ∷ rows) [] number = number ≡ 1
Faulty last (row ∷ rows) (line ∷ lines) number =
    ((number ≡ 1) × (¬ IsRow last row line)) ⊎ (IsRow last row line × Later (Faulty last rows lines) number)

-- the rows have their lines from a place on, and this is the place behind these
pub record Passes (last : ℕ) (rows : List Row) (lines : List (List ℕ)) (at behind : ℕ) : Type 0 where
  pub fit : Fit last rows (drop at lines)
  pub place : behind ≡ at + length rows
  pub within : behind ≤ length lines

-- the line at this place is the first of theirs that is faulty
pub record Stops (last : ℕ) (rows : List Row) (lines : List (List ℕ)) (at place : ℕ) : Type 0 where
  pub before : ℕ
  pub fault : Faulty last rows (drop at lines) before
  pub counted : place + 1 ≡ at + before
  pub within : place ≤ length lines

-- what a walk along the rows finds in a text from a place on
abbrev pub Finds : ℕ → List Row → List ℕ → ℕ → Result Place ℕ → Type 0
Finds last rows text at (Ok behind) = Passes last rows (lines_of text) at behind.line × IsPlace text behind
Finds last rows text at (Err place) = Stops last rows (lines_of text) at place × (place ≤ length text)
