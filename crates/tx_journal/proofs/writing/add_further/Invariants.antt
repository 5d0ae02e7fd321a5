-- The events so far are written, and there is room for as many turns as are left.
use Rattle.std.proofs.Common.{◌≡◌, ◌≤◌, ◌+◌, ◌*◌, ◌++◌, take, length, vec_len, vec_capacity}
use Rattle.tx_journal.specs.Schedule.{further_text}
use Rattle.tx_journal.proofs.writing.add_further.Given as goal

abbrev pub invariant-loop-event : goal.invariant-loop-event
invariant-loop-event l = record {
  written : l.text.items ≡ l.initial.text.items ++ further_text (take l.event-index l.events);
  left : l.left + l.event-index ≡ length l.events;
  room : vec_len l.text + 3 * l.left ≤ vec_capacity l.text;
}
