-- What an event makes of the stop queue.
use Rattle.std.specs.Prelude.{◌≡◌, ℕ, List, [], ◌∷◌, ◌++◌}

-- the head stays, leaves, or goes to the tail; the others keep their order
pub data HeadMoves (before after : List ℕ) : Type 0 where
  Stays : after ≡ before → HeadMoves before after
  Leaves : (head : ℕ) (rest : List ℕ) → before ≡ head ∷ rest → after ≡ rest → HeadMoves before after
  GoesLast : (head : ℕ) (rest : List ℕ) → before ≡ head ∷ rest → after ≡ rest ++ head ∷ []
      → HeadMoves before after

-- CPUs join at the tail, and then the head may move
pub record QueueMoves (before after : List ℕ) : Type 0 where
  pub joined : List ℕ
  pub head : HeadMoves (before ++ joined) after
