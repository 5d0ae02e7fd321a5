-- No halfword has a number.
use Rattle.std.proofs.Common.{List, ℕ, [], subst, sym}
use Rattle.tx_program.specs.Numbered.{AreRead}
use Rattle.tx_program.proofs.Numbers.{none_read}
use Rattle.tx_program.proofs.program.unread.Goals as goal

pub returns : goal.returns
returns c storage text =
    subst (λ (xs : List ℕ). AreRead storage text xs [])
    (sym (c.in_ok-numbers.ensures.items_if_clones_equal (λ y e. e))) (none_read storage text c.args.halfwords c.requires)
