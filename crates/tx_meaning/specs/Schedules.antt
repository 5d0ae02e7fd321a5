-- Schedules: given, drawn, and round.
use Rattle.std.specs.Prelude.{◌≡◌, ℕ, zero, suc, ◌+◌, ◌*◌, ◌/◌, ◌%◌, ◌^◌, ◌<◌, true, false, nat_le}
use Rattle.std.specs.Prelude.{if◌then◌else◌, length, List, [], ◌∷◌, Option, Some, None, get_or}
use Rattle.std.specs.List.{filter, range_with_len}
use Rattle.tx_serial.specs.Event.{Event}
use Rattle.tx_serial.specs.Event.TheVariants.{Turn}
use Rattle.tx_meaning.specs.Limits.{Setting}
use Rattle.tx_meaning.specs.State.{State, beginning, cpus_of}
use Rattle.tx_meaning.specs.Idle.{is_ready}
use Rattle.tx_meaning.specs.Turn.{happen}
use Rattle.tx_meaning.specs.Meaning.{meaning}

-- the CPUs whose next turn would not be idle, in rising order
unfoldable pub ready_cpus : Setting → State → List ℕ
ready_cpus m s = filter (is_ready m s) (range_with_len 0 (cpus_of m))

-- ---- who is next

-- how turns are chosen: drawn by a number that goes on, or round from a CPU on
pub data Choosing : Type 0 where
  Drawing : ℕ → Choosing
  Round : ℕ → Choosing

abbrev pub drawn_after : ℕ → ℕ
drawn_after x = (x * 6364136223846793005 + 1442695040888963407) % 2 ^ 64

-- the first of the CPUs at or above a number, else the lowest
abbrev pub first_from : ℕ → List ℕ → List ℕ → ℕ
first_from from all [] = get_or all 0 0
first_from from all (cpu ∷ rest) = if nat_le from cpu then cpu else first_from from all rest

abbrev pub chosen : Choosing → List ℕ → ℕ
chosen (Drawing x) ready = get_or ready (drawn_after x / 2 ^ 33 % length ready) 0
chosen (Round from) ready = first_from from ready ready

abbrev pub chosen_next : Choosing → ℕ → Choosing
chosen_next (Drawing x) cpu = Drawing (drawn_after x)
chosen_next (Round from) cpu = Round (cpu + 1)

-- ---- the list

-- a turn of this CPU, and what follows it
abbrev pub with_turn : Setting → Choosing → State → (Choosing → State → List Event) → ℕ → List Event
with_turn m choosing s rest cpu =
    Turn cpu ∷ rest (chosen_next choosing cpu) (happen m (Turn cpu) s).state

abbrev pub with_next : Setting → Choosing → State → (Choosing → State → List Event) → List ℕ → List Event
with_next m choosing s rest [] = []
with_next m choosing s rest (cpu ∷ ready) = with_turn m choosing s rest (chosen choosing (cpu ∷ ready))

-- turns of ready CPUs, as long as there is one, but at most so many
unfoldable pub turns_from : ℕ → Setting → Choosing → State → List Event
turns_from zero m choosing s = []
turns_from (suc most) m choosing s = with_next m choosing s (turns_from most m) (ready_cpus m s)

-- no more turns than all CPUs together may have
abbrev pub most_turns : Setting → ℕ
most_turns m = cpus_of m * m.limits.turns

abbrev pub drawn : Setting → ℕ → List Event
drawn m seed = turns_from (most_turns m) m (Drawing seed) beginning

abbrev pub round : Setting → List Event
round m = turns_from (most_turns m) m (Round 0) beginning

-- the schedule of the listing where it gives one; else drawn by the seed, where there is one; else round
abbrev pub planned_by : Option ℕ → Setting → List Event
planned_by (Some seed) m = drawn m seed
planned_by None m = round m

abbrev pub planned : Setting → Option ℕ → List Event
planned m seed = if m.image.scheduled then m.image.schedule else planned_by seed m

-- after these events the next turn of every CPU would be idle
abbrev pub IsComplete : Setting → List Event → Type 0
IsComplete m events = (i : ℕ) → i < cpus_of m → is_ready m (meaning m events) i ≡ false

-- ---- turns that are not idle

-- the event is a turn of a CPU that is ready
pub record IsReadyTurn (m : Setting) (s : State) (e : Event) : Type 0 where
  pub cpu : ℕ
  pub turn : e ≡ Turn cpu
  pub known : cpu < cpus_of m
  pub ready : is_ready m s cpu ≡ true

-- each event is, in the state behind the ones before it
abbrev pub AreReadyTurns : Setting → List Event → State → Type 0
AreReadyTurns m [] s = Unit {0}
AreReadyTurns m (e ∷ rest) s = IsReadyTurn m s e × AreReadyTurns m rest (happen m e s).state
