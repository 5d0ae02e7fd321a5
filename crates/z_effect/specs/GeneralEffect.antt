-- What an instruction of n bytes does that neither touches storage nor branches.
use Rattle.std.specs.Prelude.{ℕ, ◌+◌, ◌*◌, ◌/◌, ◌%◌, ◌^◌, if◌then◌else◌, Result, Ok, Err, []}
use Rattle.z_arith.specs.declared.Width.{Width}
use Rattle.z_arith.specs.declared.Width.TheVariants.{Word, Double}
use Rattle.z_arith.specs.declared.Answer.{Answer}
use Rattle.z_arith.specs.declared.DivideFault.{DivideFault}
use Rattle.z_arith.specs.Whole.{bits, modulo}
use Rattle.z_arith.specs.Product.{multiply_word_of, multiply_logical_of}
use Rattle.z_arith.specs.Quotient.{divide_word_of, divide_double_of, divide_logical_of}
use Rattle.z_arith.specs.Comparison.{test_halfword_of, leftmost_one_of}
use Rattle.z_instr.specs.declared.instr.Instr.{Instr}
use Rattle.z_instr.specs.Operands.{first_address, selects}
use Rattle.z_regs.specs.Cpu.{Cpu}
use Rattle.z_instr.specs.declared.kind.General.{General}
use Rattle.z_instr.specs.declared.kind.General.TheVariants.{Compute, Compare, LowHalfword, InsertHalfword, TestHalfword, ShiftFirst, ShiftThird, Address, Target, MultiplyWord, MultiplyLogical, DivideWord, DivideDouble, DivideLogical, FindLeftmostOne, LoadSelected, InsertProgramMask, SetProgramMask, ExtractAccess, SetAccess}
use Rattle.z_instr.specs.declared.kind.Source.{Source}
use Rattle.z_instr.specs.declared.kind.Source.TheVariants.{Second, Third, Immediate}
use Rattle.z_effect.specs.Registers.{register, access_register, operand_in, after, target, put_low, with_general, with_register, with_pair, with_access, with_condition, with_mask, advanced}
use Rattle.z_effect.specs.Operations.{combined, compared, extended, bits_in, logic_of, zero_code, shifted}
use Rattle.z_instr.specs.Kinds.{size_of}
use Rattle.z_effect.specs.Outcome.{Outcome, Divides, done, ended}

-- ---- operands

abbrev pub first_operand : Source → Width → Instr → Cpu → ℕ
first_operand (Second p) w i c = operand_in w c i.r1
first_operand Third w i c = operand_in w c i.r2
first_operand Immediate w i c = operand_in w c i.r1

abbrev pub second_operand : Source → Width → Instr → Cpu → ℕ
second_operand (Second p) w i c = extended w p (register c i.r2 % 2 ^ bits_in (size_of p))
second_operand Third w i c = operand_in w c i.r3
second_operand Immediate w i c = modulo (bits w) i.imm

-- the rightmost halfword of R1
abbrev pub halfword : Instr → Cpu → ℕ
halfword i c = register c i.r1 % 2 ^ 16

-- the rightmost six bits of the address
abbrev pub amount : Instr → Cpu → ℕ
amount i c = first_address i c.general % 64

-- ---- results

-- a value into R1, and its code
abbrev pub answered : ℕ → Width → Answer → Instr → Cpu → Outcome
answered n w a i c =
    ended a.overflow (advanced n (with_condition a.condition (with_register w i.r1 a.value c))) []

abbrev pub divided : ℕ → Width → Instr → Cpu → Result (ℕ × ℕ) DivideFault → Outcome
divided n w i c (Ok pair) = done (advanced n (with_pair w i.r1 pair.0 pair.1 c))
divided n w i c (Err fault) = Divides

abbrev pub with_halfword : Instr → ℕ → Cpu → Cpu
with_halfword i value c = with_general i.r1 (put_low 16 (register c i.r1) value) c

-- bits 32 to 39: two zeros, the code, the mask
abbrev pub with_program_mask : Instr → Cpu → Cpu
with_program_mask i c =
    let r = register c i.r1 in
    with_general i.r1 (put_low 32 r ((c.condition * 16 + c.mask) * 2 ^ 24 + r % 2 ^ 24)) c

unfoldable pub general_effect : General → ℕ → Instr → Cpu → Outcome
general_effect (Compute o w s) n i c =
    answered n w (combined o w c.condition (first_operand s w i c) (second_operand s w i c)) i c
general_effect (Compare o w s) n i c =
    done (advanced n (with_condition (compared o w (first_operand s w i c) (second_operand s w i c)) c))
general_effect (LowHalfword l) n i c =
    let value = logic_of l (halfword i c) (modulo 16 i.imm) in
    done (advanced n (with_condition (zero_code value) (with_halfword i value c)))
general_effect InsertHalfword n i c = done (advanced n (with_halfword i (modulo 16 i.imm) c))
general_effect TestHalfword n i c =
    done (advanced n (with_condition (test_halfword_of (halfword i c) (modulo 16 i.imm)) c))
general_effect (ShiftFirst k) n i c =
    answered n Word (shifted k Word c.condition (operand_in Word c i.r1) (amount i c)) i c
general_effect (ShiftThird k w) n i c =
    answered n w (shifted k w c.condition (operand_in w c i.r3) (amount i c)) i c
general_effect Address n i c = done (advanced n (with_general i.r1 (first_address i c.general) c))
general_effect Target n i c = done (advanced n (with_general i.r1 (target i c) c))
general_effect MultiplyWord n i c =
    let product = multiply_word_of (operand_in Word c (after i.r1)) (operand_in Word c i.r2) in
    done (advanced n (with_pair Word i.r1 (product / 2 ^ 32) (product % 2 ^ 32) c))
general_effect MultiplyLogical n i c =
    let product = multiply_logical_of (register c (after i.r1)) (register c i.r2) in
    done (advanced n (with_pair Double i.r1 product.0 product.1 c))
general_effect DivideWord n i c =
    divided n Word i c
    (divide_word_of (operand_in Word c i.r1 * 2 ^ 32 + operand_in Word c (after i.r1))
    (operand_in Word c i.r2))
general_effect DivideDouble n i c =
    divided n Double i c (divide_double_of (register c (after i.r1)) (register c i.r2))
general_effect DivideLogical n i c =
    divided n Double i c (divide_logical_of (register c i.r1) (register c (after i.r1)) (register c i.r2))
general_effect FindLeftmostOne n i c =
    let found = leftmost_one_of (register c i.r2) in
    done (advanced n (with_condition found.2 (with_pair Double i.r1 found.0 found.1 c)))
general_effect LoadSelected n i c =
    done (advanced n (if selects i.mask c.condition then with_general i.r1 (register c i.r2) c else c))
general_effect InsertProgramMask n i c = done (advanced n (with_program_mask i c))
general_effect SetProgramMask n i c =
    let r = register c i.r1 in
    done (advanced n (with_condition (r / 2 ^ 28 % 4) (with_mask (r / 2 ^ 24 % 16) c)))
general_effect ExtractAccess n i c = done (advanced n (with_register Word i.r1 (access_register c i.r2) c))
general_effect SetAccess n i c = done (advanced n (with_access i.r1 (operand_in Word c i.r2) c))
