-- A CPU as plain data, for definitions.
use Rattle.std.specs.Prelude.{ℕ, List, replicate, Option, None}
use Rattle.z_regs.specs.declared.image.RunState.{RunState}
use Rattle.z_regs.specs.declared.image.RunState.TheVariants as state
use Rattle.z_regs.specs.declared.image.CpuImage.{CpuImage}

-- the sixteen general and sixteen access registers, the address of the next instruction, the condition code,
-- the
-- program mask, the state, and the prefix where there is one
pub record Cpu : Type 0 where
  pub general : List ℕ
  pub access : List ℕ
  pub address : ℕ
  pub condition : ℕ
  pub mask : ℕ
  pub state : RunState
  pub prefix : Option ℕ

abbrev pub cpu_of : CpuImage → Cpu
cpu_of c = record {
  general = c.general;
  access = c.access;
  address = c.address;
  condition = c.condition;
  mask = c.mask;
  state = c.state;
  prefix = c.prefix;
}

-- a running CPU without a prefix at its entry address, with zeros elsewhere
abbrev pub started : ℕ → Cpu
started address = record {
  general = replicate 16 0;
  access = replicate 16 0;
  address = address;
  condition = 0;
  mask = 0;
  state = state.Running;
  prefix = None;
}
