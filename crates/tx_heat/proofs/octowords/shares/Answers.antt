-- The next octoword of the set in the range and the line is shared.
use Rattle.std.proofs.Common.{◌+◌, ◌*◌, sym, ◌∙◌}
use Rattle.std.proofs.lemmas.Bool.{and_left}
use Rattle.tx_footprint.specs.Places.{has_place}
use Rattle.tx_footprint.proofs.Spans.{no_bytes}
use Rattle.tx_heat.specs.Marks.{is_marked}
use Rattle.tx_heat.proofs.Marked.{shared_next}
use Rattle.tx_heat.proofs.octowords.shares.Goals as goal

pub returns-then-range-eq0-clause-none : goal.returns-then-range-eq0-clause-none
returns-then-range-eq0-clause-none c = λ none k lt.
    and_left (has_place 32 c.args.range (8 * c.args.line + k)) (is_marked c.args.set.now (8 * c.args.line + k))
    (no_bytes 32 c.args.range (8 * c.args.line + k) c.if-range-eq0.true)

pub returns-clause-found : goal.returns-clause-found
returns-clause-found c = λ is.
    shared_next c.args.range c.args.set.now c.args.line c.span_of-span.result.first c.span_of-span.result.end
    c.max-from.result c.min-end.result c.next.result c.span_of-span.ensures.places c.max-from.ensures
    c.min-end.ensures c.next.ensures.found (sym c.is_some.ensures ∙ is)
