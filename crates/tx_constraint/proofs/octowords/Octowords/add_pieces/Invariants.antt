use Rattle.std.proofs.Common.{◌≡◌, ◌-◌, ◌≤◌, length}
use Rattle.std.specs.List.{fold, range_with_len}
use Rattle.z_regs.specs.Rising.{with_number}
use Rattle.tx_constraint.proofs.octowords.Octowords.add_pieces.Given as goal

-- the octowords so far are added, and there was room for them
abbrev pub invariant-loop-octoword : goal.invariant-loop-octoword
invariant-loop-octoword l =
    (l.self ≡ fold with_number l.fn.self
    (range_with_len l.fn.pieces.first (l.octoword - l.fn.pieces.first)))
    × (length l.self ≤ 4) × (l.fn.pieces.first ≤ l.octoword)
