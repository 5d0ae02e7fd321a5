-- An octoword that is there makes none longer, and another one each at most by one.
use Rattle.std.proofs.Common.{◌≡◌, ◌-◌, ◌+◌, length, ap, ◌∙◌, arith}
use Rattle.std.specs.List.{fold, range_with_len}
use Rattle.z_regs.specs.Rising.{with_number}
use Rattle.tx_constraint.proofs.Piling.{pile_more}
use Rattle.tx_constraint.proofs.Standing.{Stands, stands_among, one_longer_at_most}
use Rattle.tx_constraint.proofs.octowords.Octowords.room_left.Goals as goal

pub loop-octoword-preserved-then-has : goal.loop-octoword-preserved-then-has
loop-octoword-preserved-then-has c =
    let first = c.args.pieces.first in
    let o = c.loop-octoword.octoword in
    let low = c.loop-octoword.invariant.1 in (
      (λ before.
          let found = fold with_number c.args.self.now before in
          let so_far = fold with_number found (range_with_len first (o - first)) in
          let one_more = fold with_number found (range_with_len first (o + 1 - first)) in
          let here : Stands found o = stands_among c.args.self.now before o c.if-has.ensures in
          let stands : Stands so_far o = stands_among found (range_with_len first (o - first)) o here in
          let same : one_more ≡ so_far = pile_more found first o low ∙ stands in
          omega (arith, ap length same, c.loop-octoword.invariant.0 before)),
      omega (arith, low),
    )

pub loop-octoword-preserved : goal.loop-octoword-preserved
loop-octoword-preserved c =
    let first = c.args.pieces.first in
    let o = c.loop-octoword.octoword in
    let low = c.loop-octoword.invariant.1 in (
      (λ before.
          let found = fold with_number c.args.self.now before in
          let so_far = fold with_number found (range_with_len first (o - first)) in
          let one_more = fold with_number found (range_with_len first (o + 1 - first)) in
          let same : one_more ≡ with_number so_far o = pile_more found first o low in
          omega (
            arith,
            ap length same,
            one_longer_at_most so_far o,
            c.loop-octoword.invariant.0 before,
            c.if-left-eq0.false,
          )),
      omega (arith, low),
    )
