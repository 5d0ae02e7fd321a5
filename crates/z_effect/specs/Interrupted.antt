-- What a program interruption outside transactions leaves of a CPU.
use Rattle.std.specs.Prelude.{ℕ}
use Rattle.tx_control.specs.declared.exceptions.Exception.{Exception}
use Rattle.tx_control.specs.Codes.{fixed_point_overflow_code, fixed_point_divide_code}
use Rattle.z_regs.specs.declared.image.RunState.TheVariants.{Interrupted}
use Rattle.z_regs.specs.Cpu.{Cpu}
use Rattle.z_effect.specs.Registers.{advanced}
use Rattle.z_effect.specs.Outcome.{Outcome, Did, Overflowed, Divides, Aborts}
use Rattle.z_effect.specs.After.{exception}

abbrev pub with_interruption : ℕ → Cpu → Cpu
with_interruption code c = record c { state = Interrupted code }

-- an exception that comes before the instruction has changed anything: the address goes on by the length of
-- the
-- instruction, which is 0 where it could not be fetched
abbrev pub interrupted_by : Exception → Cpu → Cpu
interrupted_by e c = with_interruption e.code (advanced e.length c)

-- after an instruction of n bytes outside transactions: an overflow comes when all is done, and a division
-- that does
-- not fit changes nothing; an abort can't come there
abbrev pub cpu_outside : ℕ → Cpu → Outcome → Cpu
cpu_outside n old (Did c bytes) = c
cpu_outside n old (Overflowed c bytes) = with_interruption fixed_point_overflow_code c
cpu_outside n old Divides = interrupted_by (exception fixed_point_divide_code n) old
cpu_outside n old (Aborts code) = old
