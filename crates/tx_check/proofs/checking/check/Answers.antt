use Rattle.std.proofs.Common.{◌++◌, refl, arith, drop}
use Rattle.report_form.specs.Text.{lines_of}
use Rattle.tx_check.specs.Sound.{joined}
use Rattle.tx_check.proofs.Bounds.{few_lines, few_entries}
use Rattle.tx_check.proofs.Due.{accepted}
use Rattle.tx_check.proofs.checking.check.Goals as goal

pub overflow_cast-result : goal.overflow_cast-result
overflow_cast-result c =
    let within = rw c.in-Some.is at c.in-Ok-first_unexpected.ensures.within in
    omega (arith, within, c.requires.few)

pub overflow_add-result : goal.overflow_add-result
overflow_add-result c =
    let within = rw c.in-Some.is at c.in-Ok-first_unexpected.ensures.within in
    omega (arith, within, c.requires.few)

pub overflow_cast-result-in-None : goal.overflow_cast-result-in-None
overflow_cast-result-in-None c =
    let low = few_lines c.args.report.now in
    let sheet = c.in_ok-sheet.ensures.sheet in
    let many =
    few_entries c.args.image.now (lines_of c.args.report.now) c.in_ok-sheet.sheet.entries sheet.events sheet.form in
    omega (arith, low, many, c.requires.few)

pub returns-in-None-clause-sound : goal.returns-in-None-clause-sound
returns-in-None-clause-sound c =
    let s = c.in_ok-sheet.sheet in
    let lines = lines_of c.args.report.now in
    let text = c.in-Ok.state.items ++ joined (drop s.count.line lines) in
    let same = rw c.in-None.is at c.in-Ok-first_unexpected.ensures.none in
    (accepted c.args.image.now c.args.report.now text lines (lines_of text) s refl refl c.in_ok-sheet.ensures.sheet
    c.in-Ok.ensures same).0

pub returns-in-None-clause-accepted : goal.returns-in-None-clause-accepted
returns-in-None-clause-accepted c =
    let s = c.in_ok-sheet.sheet in
    let lines = lines_of c.args.report.now in
    let text = c.in-Ok.state.items ++ joined (drop s.count.line lines) in
    let same = rw c.in-None.is at c.in-Ok-first_unexpected.ensures.none in
    (accepted c.args.image.now c.args.report.now text lines (lines_of text) s refl refl c.in_ok-sheet.ensures.sheet
    c.in-Ok.ensures same).1
