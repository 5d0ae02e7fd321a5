-- A range in one line needs this line.
use Rattle.std.proofs.Common.{◌+◌, ◌<◌, ◌≤◌, ◌/◌, ◌%◌, ℕ, List, [], ◌∷◌, sym, ap, ◌∙◌, arith}
use Rattle.line_table.specs.declared.table.Mode.{Mode}
use Rattle.tx_meaning.specs.declared.asking.Need.{Need}
use Rattle.tx_needs.proofs.OneLine.{needs-one}
use Rattle.tx_works.proofs.getting.need_in_line.Goals as goal

abbrev alone : ℕ → Mode → List Need
alone line mode = record { line = line; mode = mode } ∷ []

pub returns-clause-needs : goal.returns-clause-needs
returns-clause-needs c =
    let r = c.args.range in
    let some : 0 < r.length = omega (arith, c.if-length-eq0.false, c.from-length.ensures) in
    let line : r.first % 256 + r.length ≤ 256 =
    omega (arith, c.if-range-length-gt-LINE_SIZE.false, c.from-length.ensures) in
    needs-one r.first r.length r.store some line
    ∙ ap (alone (r.first / 256)) (sym c.mode_for-mode.ensures)
