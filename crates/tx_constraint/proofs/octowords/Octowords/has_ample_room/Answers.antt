-- Each operand leaves what its octowords leave, beside those of the operands before.
use Rattle.std.proofs.Common.{◌≡◌, ℕ, ◌+◌, ◌-◌, List, take, length, sym, ap, ◌∙◌, arith}
use Rattle.std.specs.List.{fold, flat_map, range_with_len}
use Rattle.tx_constraint.specs.Bytes.{pieces}
use Rattle.z_regs.specs.Rising.{with_number}
use Rattle.tx_constraint.specs.Octowords.{with_octowords}
use Rattle.tx_constraint.proofs.Piling.{octowords_more, with_octowords-none, with_octowords-pieces}
use Rattle.tx_constraint.proofs.octowords.Octowords.has_ample_room.Goals as goal

-- octowords one after the other, beside some
abbrev in_turn : List ℕ → ℕ → ℕ → List ℕ
in_turn found first end = fold with_number found (range_with_len first (end - first))

pub loop-i-init : goal.loop-i-init
loop-i-init c =
    omega (
      arith,
      ap length (with_octowords-none c.args.self.now),
      ap length c.self.view_is,
      c.remaining_capacity-room.ensures,
    )

pub loop-i-preserved : goal.loop-i-preserved
loop-i-preserved c =
    let found = c.args.self.now in
    let ranges = c.args.touches.now in
    let i = c.loop-i.i in
    let before = flat_map (pieces 32) (take i ranges) in
    let so_far : with_octowords found (take i ranges) ≡ fold with_number found before =
    with_octowords-pieces found (take i ranges) in
    let more : with_octowords found (take (i + 1) ranges) ≡
    in_turn (fold with_number found before) c.pieces_of.result.first c.pieces_of.result.end =
    octowords_more found ranges i c.at.result c.at.ensures
    ∙ (λ j. in_turn (so_far j) (sym c.pieces_of.ensures.first j) (sym c.pieces_of.ensures.end j)) in
    omega (arith, ap length so_far, ap length more, c.in-Some.ensures before, c.loop-i.invariant)
