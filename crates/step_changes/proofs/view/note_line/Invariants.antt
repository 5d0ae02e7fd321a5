-- So many words of the line are those of the machine, and those that were so before are so still.
use Rattle.std.proofs.Common.{◌≡◌, ℕ, ◌+◌, ◌*◌, ◌<◌, ◌≤◌, List, get_or}
use Rattle.std.specs.Prelude.{slice_set}
use Rattle.step_changes.specs.Changes.{Adds}
use Rattle.step_changes.specs.Seen.{word_at}
use Rattle.step_changes.proofs.view.note_line.Given as goal

abbrev pub invariant-loop-place : goal.invariant-loop-place
invariant-loop-place g l = record {
  there : (w : ℕ) (d : List ℕ) → 32 * l.line ≤ w → w < 32 * l.line + l.place
      → get_or l.words w d ≡ word_at (g.S.Shows.shown l.machine).bytes w;
  others : (w : ℕ) (d : List ℕ)
      → get_or l.fn.words w d ≡ word_at (g.S.Shows.shown l.machine).bytes w
      → get_or l.words w d ≡ word_at (g.S.Shows.shown l.machine).bytes w;
  adds : Adds slice_set l.fn.changes.items l.changes.items l.fn.words l.words;
}
