use Rattle.std.proofs.Common.{rules, ap, ◌∙◌, ◌≡◌, Some}
use Rattle.clap.specs.declared.builder.value_parser.ValueParser.TheVariants as parser
use Rattle.ztx_words.specs.Arguments.{seed_rule}
use Rattle.ztx_words.proofs.arguments.seed.Goals as goal

pub returns-clause-rule : goal.returns-clause-rule
unfolding seed_rule
returns-clause-rule c =
    let given = c.value_parser-2.ensures.given in
    let reader : c.value_parser-2.result.value_parser ≡ Some (parser.Unsigned 0 18446744073709551615) =
    given.1 ∙ ap Some (given.2 ∙ c.value_parser.ensures) in
    search (rules, reader)
