-- The lines so far are written, and there is room for as many small lines as entries are left.
use Rattle.std.proofs.Common.{◌≡◌, ◌≤◌, ◌+◌, ◌*◌, ◌++◌, take, length, vec_len, vec_capacity}
use Rattle.tx_journal.specs.Lines.{history_text}
use Rattle.tx_journal.proofs.writing.add_entries.Given as goal

abbrev pub invariant-loop-entry : goal.invariant-loop-entry
invariant-loop-entry l = record {
  written : l.text.items ≡ l.initial.text.items ++ history_text (take l.entry-index l.entries);
  left : l.left + l.entry-index ≡ length l.entries;
  room : vec_len l.text + 8 * l.left ≤ vec_capacity l.text;
}
