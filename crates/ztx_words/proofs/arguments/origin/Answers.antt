use Rattle.std.proofs.Common.{rules, ap, ◌∙◌, ◌≡◌, Some}
use Rattle.std.specs.Range.{range_inclusive_start, range_inclusive_end}
use Rattle.clap.specs.declared.builder.value_parser.ValueParser.TheVariants as parser
use Rattle.ztx_words.specs.Arguments.{origin_rule}
use Rattle.ztx_words.proofs.Ranged.{ranged_origin}
use Rattle.ztx_words.proofs.arguments.origin.Goals as goal

pub returns-clause-rule : goal.returns-clause-rule
unfolding origin_rule
returns-clause-rule c =
    let given = c.value_parser-2.ensures.given in
    let ends = c.new-2.ensures in
    let range : c.range.result ≡ parser.Unsigned 0 1040384 =
    ranged_origin c.value_parser.result c.range.result (range_inclusive_start c.new-2.result)
    (range_inclusive_end c.new-2.result) c.range.ensures c.value_parser.ensures ends.start ends.end in
    let reader : c.value_parser-2.result.value_parser ≡ Some (parser.Unsigned 0 1040384) =
    given.1 ∙ ap Some (given.2 ∙ range) in
    search (rules, reader)
