-- No octoword of the ranges so far is shared.
use Rattle.std.proofs.Common.{◌≡◌, ℕ, ◌+◌, ◌*◌, ◌<◌, false, take}
use Rattle.std.specs.Prelude.{◌&&◌}
use Rattle.std.specs.List.{list_any}
use Rattle.tx_footprint.specs.Places.{has_place}
use Rattle.tx_heat.specs.Marks.{is_marked}
use Rattle.tx_heat.proofs.octowords.is_shared.Given as goal

abbrev pub invariant-loop-i : goal.invariant-loop-i
invariant-loop-i l = (k : ℕ) → k < 8
    → (list_any (λ r. has_place 32 r (8 * l.line + k)) (take l.i l.asked) && is_marked l.set (8 * l.line + k)) ≡ false
