use Rattle.std.proofs.Common.{arith}
use Rattle.report_form.proofs.EntryLines.{entry_above, entry_tells, step_tells}
use Rattle.report_form.proofs.rows.is_entry.Goals as goal

pub returns-then-last-entry : goal.returns-then-last-entry
returns-then-last-entry c =
    entry_above c.args.last c.args.line.now c.in-Some-read_entry.entry c.in-Some-read_entry.ensures.some c.if-last-entry.true

pub returns : goal.returns
returns c =
    entry_tells c.args.last c.args.line.now c.in-Some-read_entry.entry c.from.result c.in-Some-read_entry.ensures.some
    c.if-last-entry.false c.from.ensures

pub returns-in-Some : goal.returns-in-Some
returns-in-Some c =
    step_tells c.args.last c.args.line.now c.in-Some.cpu (omega (arith, c.in-Some.ensures.few)) c.in-Some.ensures.text
