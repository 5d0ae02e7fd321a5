use Rattle.std.proofs.Common.{◌∙◌, ap, length, subst, arith, take, drop}
use Rattle.std.proofs.lemmas.List.{length-drop}
use Rattle.report_form.specs.Text.{lines_of}
use Rattle.tx_flat.specs.Machine.{state_of}
use Rattle.tx_replay.specs.Replay.{IsReplayed, IsFirstMisfit}
use Rattle.tx_check.proofs.Bounds.{few_lines, entries_there, misfit_low}
use Rattle.tx_check.proofs.LineLemmas.{rest_lines}
use Rattle.tx_check.proofs.checking.history_of.Goals as goal

pub replay-requires : goal.replay-requires
replay-requires c =
    let s = c.args.sheet in
    let there =
    entries_there c.args.image.now c.args.report.now s.history s.entries c.requires.sheet.events c.requires.sheet.form
    c.requires.sheet.begins in
    let same = ap length (rest_lines c.args.report.now s.history c.requires.place) in
    omega (arith, there, same)

pub returns-in-Ok-clause-replayed : goal.returns-in-Ok-clause-replayed
returns-in-Ok-clause-replayed c =
    let s = c.args.sheet in
    let lines = lines_of c.args.report.now in
    subst (λ ls. IsReplayed c.args.image.now (take s.entries ls) (state_of c.in-Ok.replayed.flat) c.in-Ok.replayed.ends)
    (rest_lines c.args.report.now s.history c.requires.place ∙ ap (λ n. drop n lines) c.requires.sheet.begins)
    c.in-Ok.ensures.replayed

pub overflow_cast-result : goal.overflow_cast-result
overflow_cast-result c =
    let s = c.args.sheet in
    let fault = rw c.in-Err-Entry.field-0-is at c.in-Err-Entry.ensures.fault in
    let low = misfit_low c.args.image.now _ s.entries c.in-Err-Entry.number fault in
    let same = ap length (rest_lines c.args.report.now s.history c.requires.place) in
    let rest = length-drop s.history.line (lines_of c.args.report.now) in
    let few = few_lines c.args.report.now in
    omega (arith, low, same, rest, few, c.requires.few)

pub returns-in-Err-Entry-clause-fault : goal.returns-in-Err-Entry-clause-fault
returns-in-Err-Entry-clause-fault c =
    let s = c.args.sheet in
    let lines = lines_of c.args.report.now in
    let fault = rw c.in-Err-Entry.field-0-is at c.in-Err-Entry.ensures.fault in
    record {
      entries = s.entries;
      events = c.requires.sheet.events;
      form = c.requires.sheet.form;
      misfit =
          subst (λ ls. IsFirstMisfit c.args.image.now (take s.entries ls) c.in-Err-Entry.number)
          (rest_lines c.args.report.now s.history c.requires.place ∙ ap (λ n. drop n lines) c.requires.sheet.begins)
          fault;
    }
