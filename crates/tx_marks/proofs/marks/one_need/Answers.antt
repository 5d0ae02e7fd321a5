-- One range in a line needs that line alone.
use Rattle.std.proofs.Common.{◌≡◌, ℕ, ◌+◌, ◌/◌, ◌%◌, ◌<◌, ◌≤◌, List, [], ◌∷◌, length}
use Rattle.std.proofs.Common.{Some, sym, ap, ◌∙◌, arith}
use Rattle.std.specs.Prelude.{slice_get}
use Rattle.std.proofs.lemmas.Option.{same_Some}
use Rattle.z_regs.specs.declared.ranges.Range.{Range}
use Rattle.line_table.specs.declared.table.Mode.{Mode}
use Rattle.tx_lending.specs.Needs.{needs_of}
use Rattle.tx_lending.specs.Need.{Need}
use Rattle.tx_needs.proofs.OneLine.{mode_of, needs-one}
use Rattle.tx_marks.proofs.marks.one_need.Goals as goal
use Rattle.tx_marks.proofs.marks.one_need.Goals.{then-range, else-range}

only_one : (ranges : List Range) (r : Range) → length ranges ≡ 1 → slice_get ranges 0 ≡ Some r → ranges ≡ r ∷ []
only_one [] r one at = absurd (omega (arith, one))
only_one (x ∷ []) r one at = ap (λ y. y ∷ []) (same_Some x r at)
only_one (x ∷ y ∷ rest) r one at = absurd (omega (arith, one))

abbrev needed : ℕ → Mode → List Need
needed line mode = record { line = line; mode = mode } ∷ []

pub returns-clause-need : goal.returns-clause-need
returns-clause-need c =
    let range = c.at-range.result in
    let one : length c.args.ranges.now ≡ 1 = omega (arith, c.count.ensures.value, c.if-count-ne1.false) in
    let some : 0 < range.length = omega (arith, c.if-range-eq0.false) in
    let within : range.first % 256 + range.length ≤ 256 =
    omega (arith, c.if-range-from-gt-LINE_SIZE.false, c.from.ensures) in
    let mode : mode_of range.store ≡ c.if-range.mode =
    elim c.if-range.branch [
      | then-range w ↦ ap mode_of w.if-range.true ∙ sym w.mode-is
      | else-range w ↦ ap mode_of w.if-range.false ∙ sym w.mode-is
    ] in
    ap needs_of (only_one c.args.ranges.now range one c.at-range.ensures)
    ∙ needs-one range.first range.length range.store some within
    ∙ ap (needed (range.first / 256)) mode
