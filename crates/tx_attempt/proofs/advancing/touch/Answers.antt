-- What is touched is one range, or those by absolute addresses.
use Rattle.std.proofs.Common.{◌≡◌, ℕ, List, [], ◌∷◌, Option, None, refl, sym, ap, ◌∙◌, arith, length}
use Rattle.z_regs.specs.Absolute.{absolute_range, absolute_ranges}
use Rattle.z_regs.specs.declared.ranges.Range.{Range}
use Rattle.tx_footprint.specs.Touched.{touching, sets_of, fit_of}
use Rattle.tx_footprint.proofs.Limits.{nothing_more}
use Rattle.z_regs.proofs.Elements.{one_element}
use Rattle.tx_attempt.proofs.Bare.{none-so}
use Rattle.tx_attempt.proofs.advancing.touch.Goals as goal

-- no ranges, and one without a prefix, by absolute addresses
no-ranges : (prefix : Option ℕ) (need : List Range) → length need ≡ 0
    → length (absolute_ranges prefix need) ≡ 0
no-ranges prefix [] h = refl
no-ranges prefix (r ∷ rs) h = absurd (omega (arith, h))

one-range : (prefix : Option ℕ) (need : List Range) (r : Range) → prefix ≡ None → need ≡ r ∷ []
    → absolute_ranges prefix need ≡ r ∷ []
unfolding absolute_range
one-range prefix need r none one =
    ap (λ (p : Option ℕ). absolute_ranges p need) none ∙ ap (absolute_ranges None) one

pub returns-then-count-eq0 : goal.returns-then-count-eq0
returns-then-count-eq0 c =
    sym (nothing_more (sets_of c.args.footprint.now) (absolute_ranges c.args.prefix c.args.need.now)
    (no-ranges c.args.prefix c.args.need.now (sym c.count.ensures.value ∙ c.if-count-eq0.true)))

pub add_one-requires-clause-fits : goal.add_one-requires-clause-fits
add_one-requires-clause-fits c =
    let single : length c.args.need.now ≡ 1 = omega arith in
    let one = one-range c.args.prefix c.args.need.now c.at.result
    (none-so c.args.prefix (sym c.is_some.ensures ∙ c.if-is_some.false))
    (one_element c.args.need.now c.at.result single c.at.ensures) in
    ap (λ (rs : List Range). fit_of (touching (sets_of c.args.footprint.now) rs)) (sym one) ∙ c.requires.fits

pub returns : goal.returns
returns c =
    let single : length c.args.need.now ≡ 1 = omega arith in
    let one = one-range c.args.prefix c.args.need.now c.at.result
    (none-so c.args.prefix (sym c.is_some.ensures ∙ c.if-is_some.false))
    (one_element c.args.need.now c.at.result single c.at.ensures) in
    c.add_one.ensures ∙ ap (touching (sets_of c.args.footprint.now)) (sym one)
