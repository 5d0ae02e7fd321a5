-- So far as many are the others'.
use Rattle.std.proofs.Common.{◌≡◌, take}
use Rattle.tx_constraint.proofs.octowords.Octowords.copy_from.Given as goal

abbrev pub invariant-loop-number : goal.invariant-loop-number
invariant-loop-number l = l.self-inside.numbers.items ≡ take l.number-index l.number-items
