-- Turns that are idle.
use Rattle.std.specs.Prelude.{ℕ, Bool, true, false, ◌&&◌, nat_le, is_none, if◌then◌else◌, List, [], ◌∷◌}
use Rattle.std.specs.Prelude.{Option, Some, None}
use Rattle.z_regs.specs.Cpu.{Cpu}
use Rattle.z_regs.specs.declared.image.RunState.{RunState}
use Rattle.z_regs.specs.declared.image.RunState.TheVariants.{Running, Halted, Interrupted}
use Rattle.tx_ladder.specs.Waiting.{waits_in}
use Rattle.tx_serial.specs.Flat.{Pending}
use Rattle.tx_meaning.specs.declared.outcome.Outcome.{Outcome}
use Rattle.tx_meaning.specs.declared.outcome.Outcome.TheVariants as outcome
use Rattle.tx_meaning.specs.Limits.{RunLimits, Setting}
use Rattle.tx_meaning.specs.State.{Numbers, State, is_first, flat_of, cpu_of}

-- a CPU without a prefix never takes a program interruption
abbrev pub has_ended : RunState → Option ℕ → Bool
has_ended Running prefix = false
has_ended Halted prefix = true
has_ended (Interrupted code) prefix = is_none prefix

-- the program is at its end, and no block is left to be stored
abbrev pub finished_by : Option Pending → Cpu → Bool
finished_by block c = is_none block && has_ended c.state c.prefix

abbrev pub is_finished : Setting → State → ℕ → Bool
is_finished m s i = finished_by ((flat_of m s).pending i) (cpu_of m s i)

-- all turns of the CPU are counted
abbrev pub is_spent : RunLimits → Numbers → Bool
is_spent limits n = nat_le limits.turns n.turns

-- while the stop queue is not empty, only its head has turns
abbrev pub kept_back : List ℕ → ℕ → Option Outcome
kept_back [] i = None
kept_back (head ∷ rest) i =
    if is_first i (head ∷ rest) then None
    else Some (if waits_in rest i then outcome.Queued else outcome.Stopped)

-- why a turn would be idle, where it would
abbrev pub idle_by : RunLimits → Bool → List ℕ → Numbers → ℕ → Option Outcome
idle_by limits finished queue n i =
    if finished then Some outcome.Halted
    else (if is_spent limits n then Some outcome.Spent else kept_back queue i)

unfoldable pub idle : Setting → State → ℕ → Option Outcome
idle m s i = idle_by m.limits (is_finished m s i) s.queue (s.numbers i) i

-- the next turn of the CPU would not be idle
abbrev pub is_ready : Setting → State → ℕ → Bool
is_ready m s i = is_none (idle m s i)
