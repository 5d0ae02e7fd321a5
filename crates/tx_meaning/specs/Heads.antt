-- How many turns a CPU has had as the head of the stop queue.
use Rattle.std.specs.Prelude.{ℕ, ◌+◌, Bool, ◌&&◌, not, if◌then◌else◌, List, [], ◌∷◌}
use Rattle.tx_serial.specs.Event.{Event}
use Rattle.tx_meaning.specs.Limits.{Setting}
use Rattle.tx_meaning.specs.State.{State, beginning, is_head}
use Rattle.tx_meaning.specs.Stretches.{counted, is_counted_turn, is_interrupted_by}
use Rattle.tx_meaning.specs.Turn.{happen}

-- it is the head before the event and behind it, and the event does not interrupt it from outside
abbrev pub stays_head : Setting → State → Event → ℕ → Bool
stays_head m s e i = (is_head s i && is_head (happen m e s).state i) && not (is_interrupted_by m s e i)

abbrev pub head_turns_after : Setting → State → Event → ℕ → ℕ → ℕ
head_turns_after m s e i turns =
    if stays_head m s e i then turns + counted (is_counted_turn m s e i) else 0

unfoldable pub head_turns_from : Setting → ℕ → List Event → State → ℕ → ℕ
head_turns_from m i [] s turns = turns
head_turns_from m i (e ∷ rest) s turns =
    head_turns_from m i rest (happen m e s).state (head_turns_after m s e i turns)

-- the counted turns of a CPU since it became the head, or was interrupted from outside as the head; 0 where
-- it is not the head
abbrev pub head_turns : Setting → List Event → ℕ → ℕ
head_turns m events i = head_turns_from m i events beginning 0
