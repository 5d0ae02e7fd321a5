-- What comes of an instruction.
use Rattle.std.specs.Prelude.{ℕ, Bool, ◌&&◌, nat_le, if◌then◌else◌, List, []}
use Rattle.z_regs.specs.Cpu.{Cpu}

-- the new CPU and the new bytes of its stored operand, the same with a fixed-point overflow exception, a
-- fixed-point divide
-- exception that changes nothing, or an abort with this code
pub data Outcome : Type 0 where
  Did : Cpu → List ℕ → Outcome
  Overflowed : Cpu → List ℕ → Outcome
  Divides : Outcome
  Aborts : ℕ → Outcome

-- done, and nothing is stored
abbrev pub done : Cpu → Outcome
done c = Did c []

-- done, where an overflow is an exception if the leftmost bit of the program mask is one
abbrev pub ended : Bool → Cpu → List ℕ → Outcome
ended overflow c bytes = if overflow && nat_le 8 c.mask then Overflowed c bytes else Did c bytes
