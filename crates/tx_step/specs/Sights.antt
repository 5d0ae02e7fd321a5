-- What is shown of a state of a machine, as data.
use Rattle.std.specs.Prelude.{ℕ}
use Rattle.tx_serial.specs.Flat.{address_of}
use Rattle.tx_meaning.specs.Limits.{Setting}
use Rattle.tx_meaning.specs.State.{State, flat_of, cpu_of, cpus_of}
use Rattle.tx_meaning.specs.Shown.{levels_at}
use Rattle.step_changes.specs.Seen.{CpuSeen, Shown, Sight}
use Rattle.step_changes.specs.Seen as seen

abbrev pub cpu_seen : Setting → State → ℕ → CpuSeen
cpu_seen m s i = record {
  cpu = cpu_of m s i;
  live = levels_at m s i;
  pending = address_of ((flat_of m s).pending i);
}

-- by places
abbrev pub shown_of : Setting → State → Shown
shown_of m s = record {
  count = cpus_of m;
  cpu = cpu_seen m s;
  bytes = (flat_of m s).storage;
  history = s.history;
}

-- as lists
abbrev pub sight_of : Setting → State → Sight
sight_of m s = seen.sight_of (shown_of m s)
