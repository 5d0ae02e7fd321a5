-- The general registers that an abort brings back.
use Rattle.std.specs.Prelude.{ℕ, ◌/◌, if◌then◌else◌, List, map, get_or}
use Rattle.std.specs.List.{range_with_len}
use Rattle.z_regs.specs.Cpu.{Cpu}
use Rattle.z_regs.specs.Pairs.{saves_pair}

-- a register of a pair that the mask selects has its saved value, any other what it has
unfoldable pub restored : List ℕ → ℕ → List ℕ → List ℕ
restored saved mask general =
    map (λ r. if saves_pair mask (r / 2) then get_or saved r 0 else get_or general r 0) (range_with_len 0 16)

-- nothing else of the CPU changes
abbrev pub with_restored : List ℕ → ℕ → Cpu → Cpu
with_restored saved mask cpu = record cpu { general = restored saved mask cpu.general }
