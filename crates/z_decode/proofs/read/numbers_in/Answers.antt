use Rattle.std.proofs.Common.{◌≡◌, ℕ, ◌+◌, get_or, arith}
use Rattle.z_decode.proofs.Rows.{one_place}
use Rattle.z_decode.proofs.read.numbers_in.Goals as goal

-- two digits that were added one after the other
added : (new mid old a b rest whole : ℕ) → new ≡ mid + b → mid ≡ old + a → old + (a + b) + rest ≡ whole → new + rest ≡ whole
added new mid old a b rest whole e f g = omega arith

pub loop-place-preserved : goal.loop-place-preserved
loop-place-preserved c =
    let k = c.loop-place.place in
    let layout = c.args.layout.now in
    let bytes = c.args.bytes.now in (
      (λ r. omega (arith, c.loop-place.invariant.0 r, c.add_digit.ensures.small r, c.add_digit-in-loop-place.ensures.small r)),
      (λ r. added _ _ _ _ _ _ _ (c.add_digit-in-loop-place.ensures.part r) (c.add_digit.ensures.part r)
          (one_place layout bytes k (get_or c.loop-place.numbers r 0) r _ _ (omega (arith, c.loop-place-test.true, c.requires.length))
          c.loop-place-test.true (c.loop-place.invariant.1 r))),
    )
