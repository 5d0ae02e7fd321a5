-- A range with bytes has the places of a span.
use Rattle.std.proofs.Common.{◌+◌, ◌-◌, ◌/◌, ap, ◌∙◌}
use Rattle.tx_footprint.specs.Places.{lies_in}
use Rattle.tx_footprint.proofs.Spans.{span_is}
use Rattle.tx_heat.proofs.octowords.span_of.Goals as goal

pub returns-clause-places : goal.returns-clause-places
returns-clause-places c = λ k.
    ap (λ n. lies_in (c.args.range.first / c.args.size) ((c.args.range.first + n - 1) / c.args.size + 1) k)
    c.from.ensures
    ∙ span_is c.args.size c.args.range k c.requires.size c.requires.bytes
