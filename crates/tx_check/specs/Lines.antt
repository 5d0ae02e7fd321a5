-- A text as its lines, and the first line at which two texts differ.
use Rattle.std.specs.Prelude.{◌≡◌, ◌≢◌, ℕ, ◌+◌, List, take, slice_get}
unfoldable pub use Rattle.report_form.specs.Text.{lines_of}
pub use Rattle.report_form.specs.Text.{in_front}

-- the line with this number, counted from 1, is the first at which the texts differ, one of which may have ended
pub record FirstDifference (some others : List (List ℕ)) (number : ℕ) : Type 0 where
  pub before : ℕ
  pub counted : number ≡ before + 1
  pub same : take before some ≡ take before others
  pub differs : slice_get some before ≢ slice_get others before
