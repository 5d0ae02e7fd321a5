use Rattle.std.proofs.Common.{◌≡◌, true, subst}
use Rattle.tx_serial.specs.Ending.{is_same_cause}
use Rattle.tx_serial.proofs.SameCauses.{same_cause, one_cause}
use Rattle.tx_serial.proofs.laws.causes_are_told_apart.Goals as goal

pub returns : goal.returns
returns c = λ a b. (same_cause a b, λ e. subst (λ d. is_same_cause a d ≡ true) e (one_cause a))
