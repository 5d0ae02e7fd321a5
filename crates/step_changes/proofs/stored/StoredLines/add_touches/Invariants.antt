-- The lines of so many ranges are there, and those before.
use Rattle.std.proofs.Common.{◌≡◌, ℕ, true, take}
use Rattle.tx_footprint.specs.Places.{stores}
use Rattle.step_changes.specs.Stored.{has}
use Rattle.step_changes.proofs.stored.StoredLines.add_touches.Given as goal

abbrev pub invariant-loop-i : goal.invariant-loop-i
invariant-loop-i l = record {
  there : (n : ℕ) → stores (take l.i l.touches) n ≡ true → has l.self l.cpu n ≡ true;
  others : (i n : ℕ) → has l.fn.self i n ≡ true → has l.self i n ≡ true;
}
