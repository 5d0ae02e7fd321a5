-- So many lines are there, and those before.
use Rattle.std.proofs.Common.{◌≡◌, ℕ, ◌≤◌, ◌<◌, true}
use Rattle.step_changes.specs.Stored.{has}
use Rattle.step_changes.proofs.stored.StoredLines.add_range.Given as goal

abbrev pub invariant-loop-line : goal.invariant-loop-line
invariant-loop-line l = record {
  there : (n : ℕ) → l.first ≤ n → n < l.line → has l.self l.cpu n ≡ true;
  others : (i n : ℕ) → has l.fn.self i n ≡ true → has l.self i n ≡ true;
}
