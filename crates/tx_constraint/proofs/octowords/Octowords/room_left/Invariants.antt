use Rattle.std.proofs.Common.{ℕ, List, ◌+◌, ◌-◌, ◌≤◌, length}
use Rattle.std.specs.List.{fold, range_with_len}
use Rattle.z_regs.specs.Rising.{with_number}
use Rattle.tx_constraint.proofs.octowords.Octowords.room_left.Given as goal

-- what is left bounds how many there are with the octowords so far
abbrev pub invariant-loop-octoword : goal.invariant-loop-octoword
invariant-loop-octoword l =
    ((before : List ℕ) → length (fold with_number (fold with_number l.fn.self before)
    (range_with_len l.fn.pieces.first (l.octoword - l.fn.pieces.first))) + l.left
    ≤ length (fold with_number l.fn.self before) + l.fn.room) × (l.fn.pieces.first ≤ l.octoword)
