use Rattle.std.proofs.Common.{◌+◌, ◌-◌, ◌/◌, ◌<◌, ap, sym, ◌∙◌, arith}
use Rattle.std.specs.Prelude.{◌&&◌}
use Rattle.std.proofs.lemmas.Bool.{and_left, and_right}
use Rattle.tx_footprint.specs.Places.{size_of, records, has_place, lies_in}
use Rattle.tx_footprint.proofs.Spans.{span_is, no_bytes, nothing_in, some_size}
use Rattle.tx_footprint.proofs.places.span_of.Goals as goal

pub returns-then-not-is_recorded-clause-places : goal.returns-then-not-is_recorded-clause-places
returns-then-not-is_recorded-clause-places c = λ k.
    nothing_in k
    ∙ sym (and_left (records c.args.kind c.args.range.store)
    (has_place (size_of c.args.kind) c.args.range k) (sym (c.if-not-is_recorded.ensures)))

pub returns-then-range-eq0-clause-places : goal.returns-then-range-eq0-clause-places
returns-then-range-eq0-clause-places c = λ k.
    nothing_in k
    ∙ sym (and_right (records c.args.kind c.args.range.store)
    (has_place (size_of c.args.kind) c.args.range k)
    (no_bytes (size_of c.args.kind) c.args.range k c.if-range-eq0.true))

pub returns-clause-places : goal.returns-clause-places
returns-clause-places c = λ k.
    let bytes : 0 < c.args.range.length = omega arith in
    ap (λ n. lies_in (c.args.range.first / n) ((c.args.range.first + c.from.result - 1) / c.size-2.result + 1)
    k) c.size.ensures
    ∙ ap (λ n. lies_in (c.args.range.first / size_of c.args.kind)
    ((c.args.range.first + c.from.result - 1) / n + 1) k) c.size-2.ensures
    ∙ ap (λ n. lies_in (c.args.range.first / size_of c.args.kind)
    ((c.args.range.first + n - 1) / size_of c.args.kind + 1) k) c.from.ensures
    ∙ span_is (size_of c.args.kind) c.args.range k (some_size c.args.kind) bytes
    ∙ ap (λ b. b && has_place (size_of c.args.kind) c.args.range k) (c.if-not-is_recorded.ensures)
