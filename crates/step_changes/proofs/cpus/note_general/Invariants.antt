-- So many registers are those of the image, and no other part is touched.
use Rattle.std.proofs.Common.{◌≡◌, ℕ, ◌<◌, length, get_or}
use Rattle.step_changes.specs.Parts.{AddsAt, with_general}
use Rattle.step_changes.proofs.cpus.note_general.Given as goal

abbrev pub invariant-loop-number : goal.invariant-loop-number
invariant-loop-number l = record {
  size : length l.sight.cpu.general ≡ 16;
  same : l.sight ≡ with_general l.fn.sight l.sight.cpu.general;
  put : (i : ℕ) → i < l.number → get_or l.sight.cpu.general i 0 ≡ get_or l.image.general i 0;
  adds : AddsAt l.at l.fn.changes.items l.changes.items l.fn.sight l.sight;
}
