-- The words of so many lines are those of the machine, and those that were so before are so still.
use Rattle.std.proofs.Common.{◌≡◌, ℕ, ◌/◌, ◌<◌, true, List, take, get_or}
use Rattle.std.specs.Prelude.{slice_set}
use Rattle.step_changes.specs.Changes.{Adds}
use Rattle.step_changes.specs.Seen.{word_at}
use Rattle.step_changes.specs.Stored.{is_among}
use Rattle.step_changes.proofs.view.note_lines.Given as goal

abbrev pub invariant-loop-line : goal.invariant-loop-line
invariant-loop-line g l = record {
  there : (w : ℕ) (d : List ℕ) → w < 131072 → is_among (take l.line-index l.lines) (w / 32) ≡ true
      → get_or l.words w d ≡ word_at (g.S.Shows.shown l.machine).bytes w;
  others : (w : ℕ) (d : List ℕ)
      → get_or l.fn.words w d ≡ word_at (g.S.Shows.shown l.machine).bytes w
      → get_or l.words w d ≡ word_at (g.S.Shows.shown l.machine).bytes w;
  adds : Adds slice_set l.fn.changes.items l.changes.items l.fn.words l.words;
}
