use Rattle.std.proofs.Common.{◌≡◌, ℕ, Ok, rules}
use Rattle.std.specs.Prelude.{Result}
use Rattle.z_arith.specs.declared.DivideFault.{DivideFault}
use Rattle.z_arith.specs.Quotient.{divide_double_of}
use Rattle.z_arith.proofs.QuotientLemmas.{divides_double}
use Rattle.z_arith.proofs.quotients.divide_double.Goals as goal

pub returns-clause-division : goal.returns-clause-division
unfolding divide_double_of
returns-clause-division c =
    let e : ◌≡◌ {A = Result (ℕ × ℕ) DivideFault} (Ok (c.doubleword.result, c.doubleword-2.result))
    (divide_double_of c.args.dividend c.args.divisor) = search rules in
    divides_double c.args.dividend c.args.divisor (
      c.doubleword.result,
      c.doubleword-2.result,
    ) (search rules) e
