use Rattle.std.proofs.Common.{◌≡◌, ℕ, None, length}
use Rattle.line_copies.specs.Seen.{copied}
use Rattle.line_copies.proofs.lines.no_copies.Given as goal

abbrev pub invariant-loop : goal.invariant-loop
invariant-loop l =
    record {
      size : length l.copies.items ≡ l.counter;
      none : (cpu line : ℕ) → copied l.copies.items cpu line ≡ None;
    }
