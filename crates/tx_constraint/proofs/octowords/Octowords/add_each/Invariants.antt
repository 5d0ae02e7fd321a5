use Rattle.std.proofs.Common.{◌≡◌, ◌≤◌, length, take}
use Rattle.tx_constraint.specs.Octowords.{with_octowords}
use Rattle.tx_constraint.proofs.octowords.Octowords.add_each.Given as goal

-- the octowords of the operands so far are added, and there was room for them
abbrev pub invariant-loop-i : goal.invariant-loop-i
invariant-loop-i l = (l.self ≡ with_octowords l.fn.self (take l.i l.touches)) × (length l.self ≤ 4)
