-- Attempts of two CPUs of which neither has a live one.
use Rattle.std.proofs.Common.{◌≡◌, None, sym, ap, subst, ◌∙◌}
use Rattle.tx_works.specs.Progress.{Progress, resting}
use Rattle.tx_works.specs.Same.{AreSameAttempts, AreSameConstraints}
use Rattle.tx_works.specs.Stranger.{GoesOnLike}

-- nothing is left of an earlier one, so both are the same
pub resting-same : (p q : Progress) → p ≡ resting p.cpu → q ≡ resting q.cpu → AreSameAttempts p q
resting-same p q bare other = record {
  nest = ap (λ (x : Progress). x.nest) bare ∙ sym (ap (λ (x : Progress). x.nest) other);
  footprint = ap (λ (x : Progress). x.footprint) bare ∙ sym (ap (λ (x : Progress). x.footprint) other);
  constraint = subst (λ k. AreSameConstraints k q.constraint)
      (sym (ap (λ (x : Progress). x.constraint) bare))
      (subst (λ k. AreSameConstraints None k)
      (sym (ap (λ (x : Progress). x.constraint) other)) tt);
}

-- and on the same CPU the one goes on like the other
pub resting-like : (p q : Progress) → p ≡ resting p.cpu → q ≡ resting q.cpu → p.cpu ≡ q.cpu → GoesOnLike q p
resting-like p q bare other cpus =
    let same = bare ∙ ap resting cpus ∙ sym other in record {
      cpu = cpus;
      nest = ap (λ (x : Progress). x.nest) same;
      footprint = ap (λ (x : Progress). x.footprint) same;
      constraint = ap (λ (x : Progress). x.constraint) same;
      count = ap (λ (x : Progress). x.count) same;
    }
