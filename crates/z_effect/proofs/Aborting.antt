-- Only TABORT aborts the transaction that it is executed in, and with the address of its operand as code.
use Rattle.std.proofs.Common.{◌≡◌, ℕ, ◌+◌, ◌*◌, ◌^◌, Bool, true, false, List, [], refl, Result, Ok, Err}
use Rattle.std.specs.Prelude.{◌&&◌, nat_eq, nat_le, if◌then◌else◌}
use Rattle.z_arith.specs.declared.Width.{Width}
use Rattle.z_arith.specs.declared.Width.TheVariants.{Word, Double}
use Rattle.z_arith.specs.declared.Answer.{Answer}
use Rattle.z_arith.specs.declared.DivideFault.{DivideFault}
use Rattle.z_arith.specs.Whole.{bits, modulo}
use Rattle.z_arith.specs.Sum.{add_of}
use Rattle.z_arith.specs.Quotient.{divide_word_of, divide_double_of, divide_logical_of}
use Rattle.z_regs.specs.Cpu.{Cpu}
use Rattle.z_instr.specs.declared.instr.Instr.{Instr}
use Rattle.z_instr.specs.declared.kind.Kind.{Kind}
use Rattle.z_instr.specs.declared.kind.Kind.TheVariants as kind
use Rattle.z_instr.specs.declared.kind.General.{General}
use Rattle.z_instr.specs.declared.kind.General.TheVariants as general
use Rattle.z_instr.specs.declared.kind.Storage.{Storage}
use Rattle.z_instr.specs.declared.kind.Storage.TheVariants as storage
use Rattle.z_instr.specs.declared.kind.Branch.{Branch}
use Rattle.z_instr.specs.declared.kind.Branch.TheVariants as branch
use Rattle.z_instr.specs.declared.kind.Transaction.{Transaction}
use Rattle.z_instr.specs.declared.kind.Transaction.TheVariants as transaction
use Rattle.z_instr.specs.Kinds.{item}
use Rattle.z_instr.specs.Operands.{first_address}
use Rattle.z_effect.specs.Registers.{register, operand_in, after, with_register, with_condition, advanced}
use Rattle.z_effect.specs.Operations.{combined, shifted}
use Rattle.z_effect.specs.GeneralEffect.{general_effect, first_operand, second_operand, amount, answered}
use Rattle.z_effect.specs.GeneralEffect.{divided}
use Rattle.z_effect.specs.StorageEffect.{storage_effect, number, stored, piece}
use Rattle.z_effect.specs.BranchEffect.{branch_effect}
use Rattle.z_effect.specs.TransactionEffect.{transaction_effect}
use Rattle.z_effect.specs.One.{effect}
use Rattle.z_effect.specs.Outcome.{Outcome, Did, Divides, Aborts, ended}
use Rattle.z_effect.specs.Outcome as outcome

-- an abort comes only where it may, and with this code
abbrev pub AbortsBy : Bool → ℕ → Outcome → Type 0
AbortsBy may a (Did c bytes) = Unit {0}
AbortsBy may a (outcome.Overflowed c bytes) = Unit {0}
AbortsBy may a Divides = Unit {0}
AbortsBy may a (Aborts code) = (may ≡ true) × (code ≡ a)

-- TABORT among the instructions of transactions
abbrev pub is_abort : Transaction → Bool
is_abort transaction.Abort = true
is_abort _ = false

-- and among all
abbrev pub aborts_itself : Kind → Bool
aborts_itself (kind.Transaction t) = is_abort t
aborts_itself _ = false

module _ (may : Bool) (a : ℕ) where
  -- whichever of two comes
  either_way : (b : Bool) (o p : Outcome) → AbortsBy may a o → AbortsBy may a p
      → AbortsBy may a (if b then o else p)
  either_way true o p h k = h
  either_way false o p h k = k

  -- what is done, or done with an overflow
  ended_by : (overflow : Bool) (c : Cpu) (bytes : List ℕ) → AbortsBy may a (ended overflow c bytes)
  ended_by overflow c bytes =
      either_way (overflow && nat_le 8 c.mask) (outcome.Overflowed c bytes) (Did c bytes) tt tt

  -- a result in a register
  answered_by : (n : ℕ) (w : Width) (r : Answer) (i : Instr) (c : Cpu) → AbortsBy may a (answered n w r i c)
  answered_by n w r i c =
      ended_by r.overflow (advanced n (with_condition r.condition (with_register w i.r1 r.value c))) []

  -- a division
  divided_by : (n : ℕ) (w : Width) (i : Instr) (c : Cpu) (r : Result (ℕ × ℕ) DivideFault)
      → AbortsBy may a (divided n w i c r)
  divided_by n w i c (Ok pair) = tt
  divided_by n w i c (Err fault) = tt

  -- an instruction on registers
  general_by : (k : General) (n : ℕ) (i : Instr) (c : Cpu) → AbortsBy may a (general_effect k n i c)
  unfolding general_effect
  general_by (general.Compute o w s) n i c =
      answered_by n w (combined o w c.condition (first_operand s w i c) (second_operand s w i c)) i c
  general_by (general.ShiftFirst k) n i c =
      answered_by n Word (shifted k Word c.condition (operand_in Word c i.r1) (amount i c)) i c
  general_by (general.ShiftThird k w) n i c =
      answered_by n w (shifted k w c.condition (operand_in w c i.r3) (amount i c)) i c
  general_by (general.DivideWord) n i c =
      divided_by n Word i c
      (divide_word_of (operand_in Word c i.r1 * 2 ^ 32 + operand_in Word c (after i.r1))
      (operand_in Word c i.r2))
  general_by (general.DivideDouble) n i c =
      divided_by n Double i c (divide_double_of (register c (after i.r1)) (register c i.r2))
  general_by (general.DivideLogical) n i c =
      divided_by n Double i c
      (divide_logical_of (register c i.r1) (register c (after i.r1)) (register c i.r2))
  general_by k n i c = tt

  -- an instruction on storage
  storage_by : (k : Storage) (n : ℕ) (i : Instr) (c : Cpu) (bytes : List ℕ)
      → AbortsBy may a (storage_effect k n i c bytes)
  unfolding storage_effect
  storage_by (storage.Compute o w p) n i c bytes =
      answered_by n w (combined o w c.condition (operand_in w c i.r1) (piece w p bytes)) i c
  storage_by (storage.AddImmediate w) n i c bytes =
      let r = add_of w (number (item w) bytes) (modulo (bits w) i.imm) in
      ended_by r.overflow (advanced n (with_condition r.condition c)) (stored (item w) r.value)
  storage_by (storage.CompareAndSwap w) n i c bytes =
      either_way (nat_eq (operand_in w c i.r1) (number (item w) bytes))
      (Did (advanced n (with_condition 0 c)) (stored (item w) (register c i.r3)))
      (Did (advanced n (with_condition 1 (with_register w i.r1 (number (item w) bytes) c))) bytes) tt tt
  storage_by (storage.LoadAnd o w) n i c bytes =
      let old = number (item w) bytes in
      let r = combined o w c.condition old (operand_in w c i.r3) in
      ended_by r.overflow (advanced n (with_condition r.condition (with_register w i.r1 old c)))
      (stored (item w) r.value)
  storage_by k n i c bytes = tt

  -- a branch
  branch_by : (k : Branch) (n : ℕ) (i : Instr) (c : Cpu) → AbortsBy may a (branch_effect k n i c)
  unfolding branch_effect
  branch_by (branch.OnCondition p) n i c = tt
  branch_by k n i c = tt

-- an instruction of transactions
transaction_by : (may : Bool) (t : Transaction) (n : ℕ) (i : Instr) (c : Cpu) (depth : ℕ)
    → (is_abort t ≡ true → may ≡ true)
    → AbortsBy may (first_address i c.general) (transaction_effect t n i c depth)
unfolding transaction_effect
transaction_by may transaction.Abort n i c depth h = (h refl, refl)
transaction_by may t n i c depth h = tt

-- any instruction, by what it does
pub effect_by : (may : Bool) (k : Kind) (n : ℕ) (i : Instr) (c : Cpu) (depth : ℕ) (bytes : List ℕ)
    → (aborts_itself k ≡ true → may ≡ true)
    → AbortsBy may (first_address i c.general) (effect k n i c depth bytes)
effect_by may (kind.General g) n i c depth bytes h = general_by may _ g n i c
effect_by may (kind.Storage s) n i c depth bytes h = storage_by may _ s n i c bytes
effect_by may (kind.Branch b) n i c depth bytes h = branch_by may _ b n i c
effect_by may (kind.Transaction t) n i c depth bytes h = transaction_by may t n i c depth h
