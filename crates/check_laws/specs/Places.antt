-- What a machine sees to by its types, so that a report has places for it.
use Rattle.std.specs.Prelude.{◌≡◌, ℕ, ◌<◌, ◌^◌, length}
use Rattle.z_regs.specs.Cpu.{Cpu}
use Rattle.z_regs.specs.Prefix.{storage_size}
use Rattle.tx_meaning.specs.Limits.{Setting}
use Rattle.tx_meaning.specs.State.{Numbers, State, flat_of, cpu_of, cpus_of}

-- sixteen registers of each kind, a condition code and a mask
pub record HasRegisters (c : Cpu) : Type 0 where
  pub general : length c.general ≡ 16
  pub access : length c.access ≡ 16
  pub condition : c.condition < 4
  pub mask : c.mask < 16

-- questions and rejects of 64 bits
pub record AreSmall (n : Numbers) : Type 0 where
  pub asked : n.asked < 2 ^ 64
  pub rejected : n.rejected < 2 ^ 64

-- of one CPU
pub record HasPlace (m : Setting) (s : State) (i : ℕ) : Type 0 where
  pub registers : HasRegisters (cpu_of m s i)
  pub numbers : AreSmall (s.numbers i)

-- of all CPUs and of storage
pub record HasPlaces (m : Setting) (s : State) : Type 0 where
  pub cpus : (i : ℕ) → i < cpus_of m → HasPlace m s i
  pub bytes : (a : ℕ) → a < storage_size → (flat_of m s).storage a < 256
