-- So many entries are counted.
use Rattle.std.proofs.Common.{◌≡◌, ℕ, ◌<◌, take, Some}
use Rattle.std.specs.Prelude.{slice_get}
use Rattle.tx_report.specs.Ends.{ends_in}
use Rattle.tx_report.proofs.ends.ends_of.Given as goal

abbrev pub invariant-loop-entry : goal.invariant-loop-entry
invariant-loop-entry l =
    (i : ℕ) → i < 16 → slice_get l.all i ≡ Some (ends_in (take l.entry-index l.history) i)
