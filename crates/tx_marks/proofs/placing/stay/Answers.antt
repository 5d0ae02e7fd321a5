-- Outside both areas a prefix moves nothing.
use Rattle.std.proofs.Common.{◌≡◌, ℕ, ◌+◌, ◌-◌, ◌≤◌, false, ltb, leb, Some, ap, ◌∙◌, arith}
use Rattle.std.specs.Prelude.{◌&&◌, cond}
use Rattle.std.proofs.lemmas.Bool.{cond-false, le-ltb, lt-leb, leb-true, and_left, and_right}
use Rattle.z_regs.specs.Prefix.{absolute_of}
use Rattle.tx_lending.specs.Places.{places_from}
use Rattle.tx_marks.proofs.RunsPlaced.{still_placed}
use Rattle.tx_marks.proofs.placing.stay.Goals as goal

unmoved : (own a : ℕ) → 8192 ≤ a → (leb own a && ltb a (own + 8192)) ≡ false → absolute_of (Some own) a ≡ a
unmoved own a high out =
    cond-false (ltb a 8192) (a + own) (cond (leb own a && ltb a (own + 8192)) (a - own) a) (le-ltb a 8192 high)
    ∙ cond-false (leb own a && ltb a (own + 8192)) (a - own) a out

pub returns-then-end-own : goal.returns-then-end-own
returns-then-end-own c = λ below.
    let own = c.in-Some.own in
    let end : c.args.first + c.args.length ≤ own =
    omega (arith, leb-true (c.args.first + c.from.result) c.from-own.result below, c.from.ensures, c.from-own.ensures) in
    ap (λ p. places_from p c.args.first c.args.length) c.in-Some.is
    ∙ still_placed (Some own) c.args.first c.args.length (λ k lt.
    unmoved own (c.args.first + k) (omega (arith, c.if-first-ge-AREA_SIZE.true))
    (and_left (leb own (c.args.first + k)) (ltb (c.args.first + k) (own + 8192))
    (lt-leb own (c.args.first + k) (omega (arith, end, lt)))))

pub returns-else-end-own : goal.returns-else-end-own
returns-else-end-own c = λ above.
    let own = c.in-Some.own in
    let start : own + 8192 ≤ c.args.first =
    omega (arith, leb-true (c.from-own.result + 8192) c.args.first above, c.from-own.ensures) in
    ap (λ p. places_from p c.args.first c.args.length) c.in-Some.is
    ∙ still_placed (Some own) c.args.first c.args.length (λ k lt.
    unmoved own (c.args.first + k) (omega (arith, start))
    (and_right (leb own (c.args.first + k)) (ltb (c.args.first + k) (own + 8192))
    (le-ltb (c.args.first + k) (own + 8192) (omega (arith, start)))))
