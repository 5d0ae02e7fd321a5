-- The range that stores there is one of them.
use Rattle.std.proofs.Common.{◌<◌, length, sym, ap, ◌∙◌}
use Rattle.std.proofs.lemmas.List.Folds.{list_any_at}
use Rattle.std.proofs.lemmas.Option.{get_or_from_slice_get, slice_get_within}
use Rattle.z_regs.specs.declared.ranges.Range.{Range}
use Rattle.step_changes.specs.Stored.{in_span}
use Rattle.step_changes.proofs.stored.in_spans.Goals as goal

pub returns-then-in_span : goal.returns-then-in_span
returns-then-in_span c =
    let ranges = c.args.touches.now in
    let line = c.args.line in
    let i = c.loop-i.i in
    let r : Range = c.at.result in
    let within : i < length ranges = slice_get_within ranges i r c.at.ensures in
    sym (list_any_at (λ x. in_span x line) ranges i r within
    (ap (λ x. in_span x line) (get_or_from_slice_get ranges i r r c.at.ensures)
    ∙ sym c.in_span.ensures ∙ c.if-in_span.true))
