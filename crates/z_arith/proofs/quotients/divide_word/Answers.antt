use Rattle.std.proofs.Common.{◌≡◌, ℕ, Ok, rules, arith}
use Rattle.std.specs.Prelude.{Result}
use Rattle.std.proofs.lemmas.Grind.{common_steps}
use Rattle.z_arith.specs.declared.DivideFault.{DivideFault}
use Rattle.z_arith.specs.Quotient.{divide_word_of}
use Rattle.z_arith.proofs.QuotientLemmas.{divides_word}
use Rattle.z_arith.proofs.quotients.divide_word.Goals as goal

pub returns-clause-division : goal.returns-clause-division
unfolding divide_word_of
returns-clause-division c =
    let e : ◌≡◌ {A = Result (ℕ × ℕ) DivideFault} (Ok (c.word.result, c.word-2.result))
    (divide_word_of c.args.dividend c.args.divisor) = grind (arith, common_steps) in
    divides_word c.args.dividend c.args.divisor (c.word.result, c.word-2.result) (search rules) e

pub returns-clause-value : goal.returns-clause-value
unfolding divide_word_of
returns-clause-value c = grind (arith, common_steps)
