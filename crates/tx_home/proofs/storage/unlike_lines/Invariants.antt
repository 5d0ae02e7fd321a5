-- The lines below the next one are held as they were needed.
use Rattle.std.proofs.Common.{◌-◌}
use Rattle.std.specs.Prelude.{◌≡◌, ℕ, ◌<◌, true}
use Rattle.line_table.specs.declared.table.Mode.{Mode}
use Rattle.tx_works.specs.Owned.{holders_in}
use Rattle.tx_works.specs.Marks.{mode_in}
use Rattle.tx_meaning.specs.Asking.{is_there}
use Rattle.std.specs.Prelude.{None}
use Rattle.tx_home.specs.Places.{lacking}
use Rattle.tx_home.proofs.storage.unlike_lines.Given as goal

abbrev pub invariant-loop-line : goal.invariant-loop-line
invariant-loop-line l =
    record {
      none : (n : ℕ) → n < l.from → lacking n (holders_in l.lines l.run.cpu n) (mode_in l.run.made.needed n) ≡ None;
      held : (n : ℕ) (mode : Mode) → n < l.from → is_there mode (mode_in l.run.made.needed n) ≡ true
          → is_there mode (holders_in l.lines l.run.cpu n) ≡ true;
    }

abbrev pub decreases-loop-line : goal.decreases-loop-line
decreases-loop-line l = 4096 - l.from
