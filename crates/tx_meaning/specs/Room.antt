-- How much a machine writes down.
use Rattle.std.specs.Prelude.{ℕ, Bool, true, false, ◌==◌}
use Rattle.bit_set.specs.Counts.{count_below}
use Rattle.tx_serial.specs.Event.{Event}
use Rattle.tx_serial.specs.Event.TheVariants.{Turn, External}
use Rattle.tx_meaning.specs.Limits.{Setting}
use Rattle.tx_meaning.specs.State.{State, is_live, cpus_of}

-- how many CPUs have a live attempt
abbrev pub live_attempts : Setting → State → ℕ
live_attempts m s = count_below (cpus_of m) (is_live s)

abbrev pub is_turn : Event → Bool
is_turn (Turn i) = true
is_turn (External i) = false

abbrev pub is_turn_of : ℕ → Event → Bool
is_turn_of i (Turn j) = j == i
is_turn_of i (External j) = false
