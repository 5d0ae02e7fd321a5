-- Moves in a run, one after the other.
use Rattle.std.specs.Prelude.{ℕ, List, [], ◌∷◌}
use Rattle.tx_step.specs.Traces.{Traced, forward_from, back_from}

-- so many events forward, or back
pub data Move : Type 0 where
  Forward : ℕ → Move
  Back : ℕ → Move

abbrev pub moved : Move → Traced → Traced
moved (Forward n) t = forward_from n t
moved (Back n) t = back_from n t

-- the first move first
abbrev pub after_moves : List Move → Traced → Traced
after_moves [] t = t
after_moves (m ∷ rest) t = after_moves rest (moved m t)
