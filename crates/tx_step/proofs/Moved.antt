-- Moves change the position alone.
use Rattle.std.proofs.Common.{◌≡◌, ℕ, ◌+◌, ◌-◌, ◌≤◌, List, [], ◌∷◌, length, refl, sym, ap, ◌∙◌, arith}
use Rattle.std.specs.Prelude.{min}
use Rattle.tx_step.specs.Moves.{Move, Forward, Back, after_moves, moved}
use Rattle.tx_step.specs.Traces.{Traced, moved_to, forward_from, back_from}

pub there_and_back : (t : Traced) (n : ℕ) → t.position + n ≤ length t.events → back_from n (forward_from n t) ≡ t
there_and_back t n ahead =
    let same : min (t.position + n) (length t.events) - n ≡ t.position = omega arith in
    ap (λ p. moved_to p t) same

-- one move leads to a position, and so do all
one_move : (m : Move) (t : Traced) → moved m t ≡ moved_to (moved m t).position t
one_move (Forward n) t = refl
one_move (Back n) t = refl

all_moves : (moves : List Move) (t : Traced) → after_moves moves t ≡ moved_to (after_moves moves t).position t
all_moves [] t = refl
all_moves (m ∷ rest) t =
    let next = moved m t in
    all_moves rest next ∙ ap (moved_to (after_moves rest next).position) (one_move m t)

pub two_ways : (t : Traced) (one other : List Move)
    → (after_moves one t).position ≡ (after_moves other t).position → after_moves one t ≡ after_moves other t
two_ways t one other same =
    all_moves one t ∙ ap (λ p. moved_to p t) same ∙ sym (all_moves other t)
