-- Which of the ready CPUs is next.
use Rattle.std.specs.Prelude.{ℕ, ◌%◌, length, nat_le, if◌then◌else◌, get_or}
use Rattle.std.specs.Prelude.{List, [], ◌∷◌, Option, Some, None}
use Rattle.tx_meaning.specs.Schedules.{Choosing, Drawing, Round, chosen}
use Rattle.tx_schedule.specs.declared.choosing.Order.{Order}
use Rattle.tx_schedule.specs.declared.choosing.Order.TheVariants as order

-- how turns are chosen in this order
abbrev pub choosing_by : Order → Choosing
choosing_by (order.Drawn x) = Drawing x
choosing_by (order.Round from) = Round from

-- the one that is chosen, where there is one
abbrev pub next_among : Choosing → List ℕ → Option ℕ
next_among choosing [] = None
next_among choosing (cpu ∷ ready) = Some (chosen choosing (cpu ∷ ready))

-- the one at the place that a number leaves, divided by how many there are
abbrev pub place_among : ℕ → List ℕ → Option ℕ
place_among n [] = None
place_among n (cpu ∷ ready) = Some (get_or (cpu ∷ ready) (n % length (cpu ∷ ready)) 0)

-- the first at or above a number
abbrev pub first_at : ℕ → List ℕ → Option ℕ
first_at from [] = None
first_at from (cpu ∷ rest) = if nat_le from cpu then Some cpu else first_at from rest
