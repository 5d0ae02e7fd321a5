-- What an instruction changes in a CPU.
use Rattle.std.specs.Prelude.{ℕ, suc, ◌+◌, ◌*◌, ◌/◌, ◌%◌, ◌^◌, ◌*ℤ◌, ◌+ℤ◌, pos, get_or, set}
use Rattle.z_arith.specs.declared.Width.{Width}
use Rattle.z_arith.specs.declared.Width.TheVariants.{Word, Double}
use Rattle.z_arith.specs.Whole.{modulo}
use Rattle.z_instr.specs.declared.instr.Instr.{Instr}
use Rattle.z_regs.specs.Cpu.{Cpu}

-- ---- reading

abbrev pub register : Cpu → ℕ → ℕ
register c r = get_or c.general r 0

abbrev pub access_register : Cpu → ℕ → ℕ
access_register c r = get_or c.access r 0

-- the word of a doubleword, or all of it
abbrev pub low : Width → ℕ → ℕ
low Word n = n % 2 ^ 32
low Double n = n

-- the word of a register, or all of it
abbrev pub operand_in : Width → Cpu → ℕ → ℕ
operand_in w c r = low w (register c r)

-- the register after another, 0 after 15: the second one of a pair
abbrev pub after : ℕ → ℕ
after r = suc r % 16

-- where a relative operand is: some halfwords from the instruction
abbrev pub target : Instr → Cpu → ℕ
target i c = modulo 64 (pos c.address +ℤ i.imm *ℤ pos 2)

-- ---- changing

-- a value in the rightmost k bits of a doubleword whose other bits stay
abbrev pub put_low : ℕ → ℕ → ℕ → ℕ
put_low k old value = old / 2 ^ k * 2 ^ k + value

-- a word leaves the left half as it was
abbrev pub put_into : Width → ℕ → ℕ → ℕ
put_into Word old value = put_low 32 old value
put_into Double old value = value

abbrev pub with_general : ℕ → ℕ → Cpu → Cpu
with_general r value c = record c { general = set c.general r value }

abbrev pub with_register : Width → ℕ → ℕ → Cpu → Cpu
with_register w r value c = with_general r (put_into w (register c r) value) c

-- a value in a register, and then one in the register after it
abbrev pub with_pair : Width → ℕ → ℕ → ℕ → Cpu → Cpu
with_pair w r first second c = with_register w (after r) second (with_register w r first c)

abbrev pub with_access : ℕ → ℕ → Cpu → Cpu
with_access r value c = record c { access = set c.access r value }

abbrev pub with_condition : ℕ → Cpu → Cpu
with_condition code c = record c { condition = code }

abbrev pub with_mask : ℕ → Cpu → Cpu
with_mask mask c = record c { mask = mask }

abbrev pub with_address : ℕ → Cpu → Cpu
with_address a c = record c { address = a }

-- the address behind an instruction of n bytes
abbrev pub next_address : ℕ → Cpu → ℕ
next_address n c = (c.address + n) % 2 ^ 64

abbrev pub advanced : ℕ → Cpu → Cpu
advanced n c = with_address (next_address n c) c
