-- The head of the stop queue is never rejected.
use Rattle.std.proofs.Common.{◌≡◌, ℕ, Bool, true, false, List, [], ◌∷◌, ◌++◌, Option, None, refl, sym, ◌∙◌}
use Rattle.tx_ladder.specs.Rungs.{Standing, next_rung}
use Rattle.tx_meaning.specs.declared.asking.Reject.{Reject}
use Rattle.tx_meaning.specs.Limits.{Setting}
use Rattle.tx_meaning.specs.State.{State, is_first, is_head, standing_of}
use Rattle.tx_meaning.specs.Changes.{without_attempt, aborting}
use Rattle.tx_meaning.specs.Turn.{turn}
use Rattle.tx_meaning.proofs.Walk.{Walk, conflict_on, rung_case, in_a_turn}

abbrev IsHead : ℕ → State → Type 0
IsHead i s = is_head s i ≡ true

-- CPUs join behind it
still_first : (i j : ℕ) (queue : List ℕ) → is_first i queue ≡ true → is_first i (queue ++ j ∷ []) ≡ true
still_first i j [] h = let n : false ≡ true = h in cc
still_first i j (head ∷ rest) h = h

still_head : (i j : ℕ) (standing : Standing) (n line : ℕ) (stored : Bool) (s : State) → IsHead i s
    → IsHead i (aborting j standing n (conflict_on stored line) s)
unfolding aborting
still_head i j standing n line true s h =
    rung_case (IsHead i) j (next_rung standing) (without_attempt j s) h (λ turns. h) (still_first i j s.queue
    h)
still_head i j standing n line false s h =
    rung_case (IsHead i) j (next_rung standing) (without_attempt j s) h (λ turns. h) (still_first i j s.queue
    h)

abbrev Unrejected : Option Reject → State → Type 0
Unrejected o s = o ≡ None

head_walk : (m : Setting) (i : ℕ) → Walk m i (IsHead i) (λ s. ⊥) Unrejected
head_walk m i = record {
  asks = λ s h. h;
  holds = λ s held h. h;
  rejects = λ s j known other live head h. let n : false ≡ true = sym head ∙ h in cc;
  aborts = λ s j line stored known other live h.
      still_head i j (standing_of m s j) (s.numbers j).completed line stored s h;
  refused = λ r s none. absurd none;
  starved = λ r s live none. absurd none;
  nothing = λ s h. refl;
  ends = λ s n w h. refl;
  steps = λ s h. refl;
  pauses = λ s turns h. refl;
  stores = λ s h. refl;
  takes = λ s h. refl;
  starts = λ s live h. refl;
  continues = λ s live h. refl;
  commits = λ s constrained n live h. refl;
  waits = λ s h. refl;
  interrupted = λ s live h. refl;
  unmet = λ s h. refl;
}

pub head_unrejected : (m : Setting) (s : State) (i : ℕ) → is_head s i ≡ true → (turn m i s).reject ≡ None
head_unrejected m s i h =
    in_a_turn m i (IsHead i) (λ s. ⊥) Unrejected (head_walk m i) s (λ o e. refl) (λ _. h)
