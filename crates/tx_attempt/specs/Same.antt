-- When two attempts have touched the same under the same begins and constraints.
use Rattle.std.specs.Prelude.{◌≡◌, Option, Some, None}
use Rattle.tx_constraint.specs.Kept.{Kept, AreSame}
use Rattle.tx_footprint.specs.Touched.{sets_of}
use Rattle.tx_progress.specs.Progress.{Progress}
use Rattle.tx_attempt.specs.Tracked.{Tracked}

-- one TBEGINC and the same octowords, or no constraints
abbrev pub AreSameConstraints : Option Kept → Option Kept → Type 0
AreSameConstraints None None = Unit {0}
AreSameConstraints None (Some l) = ⊥
AreSameConstraints (Some k) None = ⊥
AreSameConstraints (Some k) (Some l) = AreSame k l

pub record AreSameParts (s t : Tracked) : Type 0 where
  pub nest : s.nest ≡ t.nest
  pub footprint : sets_of s.footprint ≡ sets_of t.footprint
  pub constraint : AreSameConstraints s.constraint t.constraint

pub record AreSameAttempts (p q : Progress) : Type 0 where
  pub nest : p.nest ≡ q.nest
  pub footprint : p.footprint ≡ q.footprint
  pub constraint : AreSameConstraints p.constraint q.constraint
