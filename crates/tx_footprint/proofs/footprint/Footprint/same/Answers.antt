use Rattle.std.proofs.Common.{◌≡◌, false, true, refl, ap, sym, ◌∙◌}
use Rattle.tx_footprint.specs.Touched.{Sets}
use Rattle.tx_footprint.proofs.Limits.{same_marks, sets_inside, sets_outside}
use Rattle.tx_footprint.proofs.footprint.Footprint.same.Goals as goal

pub returns-then-not-same : goal.returns-then-not-same
returns-then-not-same c = (
  λ n. let off : false ≡ true = n in cc,
  λ e. c.if-not-same.ensures.1
      (same_marks c.self.inside.fetched c.other.inside.fetched
      (c.self.invariant.fetched_size ∙ sym c.other.invariant.fetched_size)
      (λ k. ap (λ (s : Sets). s.fetched k) (sets_inside c.self.view_is c.other.view_is e))),
)

pub returns-then-not-same-2 : goal.returns-then-not-same-2
returns-then-not-same-2 c = (
  λ n. let off : false ≡ true = n in cc,
  λ e. c.if-not-same-2.ensures.1
      (same_marks c.self.inside.stored c.other.inside.stored
      (c.self.invariant.stored_size ∙ sym c.other.invariant.stored_size)
      (λ k. ap (λ (s : Sets). s.stored k) (sets_inside c.self.view_is c.other.view_is e))),
)

pub returns : goal.returns
returns c = (
  λ yes. sets_outside c.self.view_is c.other.view_is ((c.if-not-same.ensures).0 refl)
      ((c.if-not-same-2.ensures).0 refl) (c.same-3.ensures.0 yes),
  λ e. c.same-3.ensures.1
      (same_marks c.self.inside.blocks c.other.inside.blocks
      (c.self.invariant.blocks_size ∙ sym c.other.invariant.blocks_size)
      (λ k. ap (λ (s : Sets). s.blocks k) (sets_inside c.self.view_is c.other.view_is e))),
)
