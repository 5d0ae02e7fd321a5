use Rattle.tx_flat.specs.Machine.{state_of}
use Rattle.tx_replay.proofs.EntryNumbers.{by_reading, step_only}
use Rattle.tx_replay.proofs.entries.entry_with.Goals as goal

pub returns-in-Some-clause-only : goal.returns-in-Some-clause-only
returns-in-Some-clause-only c = λ e sound is fits.
    step_only c.args.line.now c.in-Some.cpu c.in-Some.ensures.few c.in-Some.ensures.text e sound is

pub returns-clause-only : goal.returns-clause-only
returns-clause-only c =
    by_reading (state_of c.args.flat.now) c.args.line.now c.in-Some-read_entry.text c.plain_entry.result
    c.in-Some-read_entry.ensures.some (λ e sound tells fits. c.plain_entry.ensures.only e sound tells)
