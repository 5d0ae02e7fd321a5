use Rattle.std.proofs.Common.{◌+◌, ◌≤◌, length, take}
use Rattle.tx_constraint.specs.Octowords.{with_octowords}
use Rattle.tx_constraint.proofs.octowords.Octowords.has_ample_room.Given as goal

-- the octowords of the operands so far leave this room at least
abbrev pub invariant-loop-i : goal.invariant-loop-i
invariant-loop-i l = length (with_octowords l.fn.self (take l.i l.touches)) + l.room ≤ 4
