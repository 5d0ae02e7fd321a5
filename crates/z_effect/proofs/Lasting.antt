-- What lasts of a CPU: no instruction changes its prefix, and none but a service call its state.
use Rattle.std.proofs.Common.{◌≡◌, ℕ, zero, suc, Bool, true, false, List, [], refl}
use Rattle.std.proofs.Common.{Option, Some, None, Result, Ok, Err}
use Rattle.std.specs.Prelude.{◌&&◌, nat_le, nat_eq, if◌then◌else◌}
use Rattle.z_arith.specs.declared.Answer.{Answer}
use Rattle.z_arith.specs.declared.DivideFault.{DivideFault}
use Rattle.z_arith.specs.declared.Width.{Width}
use Rattle.z_arith.specs.declared.Width.TheVariants.{Word, Double}
use Rattle.z_arith.specs.Sum.{add_of}
use Rattle.z_arith.specs.Whole.{bits, modulo}
use Rattle.z_instr.specs.declared.instr.Instr.{Instr}
use Rattle.z_instr.specs.declared.kind.Branch.{Branch}
use Rattle.z_instr.specs.declared.kind.Branch.TheVariants as branch
use Rattle.z_instr.specs.declared.kind.Combination.{Combination}
use Rattle.z_instr.specs.declared.kind.Combination.TheVariants.{Move, Logic}
use Rattle.z_instr.specs.declared.kind.General.{General}
use Rattle.z_instr.specs.declared.kind.General.TheVariants as general
use Rattle.z_instr.specs.declared.kind.Kind.{Kind}
use Rattle.z_instr.specs.declared.kind.Kind.TheVariants as kind
use Rattle.z_instr.specs.declared.kind.Storage.{Storage}
use Rattle.z_instr.specs.declared.kind.Storage.TheVariants as storage
use Rattle.z_instr.specs.declared.kind.Transaction.{Transaction}
use Rattle.z_instr.specs.declared.kind.Transaction.TheVariants as transaction
use Rattle.z_instr.specs.Kinds.{item}
use Rattle.z_instr.specs.Operands.{selects}
use Rattle.z_instr.specs.Table.{kind_at}
use Rattle.z_regs.specs.Cpu.{Cpu}
use Rattle.z_regs.specs.declared.image.RunState.{RunState}
use Rattle.z_regs.specs.declared.image.RunState.TheVariants.{Halted}
use Rattle.z_effect.specs.After.{cpu_after}
use Rattle.z_effect.specs.BranchEffect.{branch_effect, destination, going}
use Rattle.z_effect.specs.Facts.{is_service}
use Rattle.z_effect.specs.GeneralEffect.{general_effect, answered, divided}
use Rattle.z_effect.specs.One.{one, effect, length_of}
use Rattle.z_effect.specs.Operations.{combined}
use Rattle.z_effect.specs.Outcome.{Outcome, ended}
use Rattle.z_effect.specs.Registers.{operand_in, with_register, with_condition, advanced}
use Rattle.z_effect.specs.StorageEffect.{storage_effect, number, with_items, with_code_of}
use Rattle.z_effect.specs.TransactionEffect.{transaction_effect}

-- what is said of the state and of the prefix of a CPU
module _ (P : RunState → Option ℕ → Type 0) where
  -- where it is true of a CPU, it is true of another one
  abbrev pub Lasts : Cpu → Cpu → Type 0
  Lasts c new = P c.state c.prefix → P new.state new.prefix

  -- and so of the CPU that comes of an instruction
  abbrev pub Keeps : Outcome → Cpu → Type 0
  Keeps o c = Lasts c (cpu_after c o)

  -- whichever of two outcomes comes
  either_way : (b : Bool) (o p : Outcome) (c : Cpu) → Keeps o c → Keeps p c → Keeps (if b then o else p) c
  either_way true o p c h k = h
  either_way false o p c h k = k

  -- whichever of two CPUs is taken
  one_of_two : (b : Bool) (x y c : Cpu) → Lasts c x → Lasts c y → Lasts c (if b then x else y)
  one_of_two true x y c h k = h
  one_of_two false x y c h k = k

  -- whether or not an overflow is an exception
  keeps_ended : (overflow : Bool) (new c : Cpu) (bytes : List ℕ) → Lasts c new →
      Keeps (ended overflow new bytes) c
  keeps_ended overflow new c bytes h = either_way (overflow && nat_le 8 new.mask) _ _ c h h

  -- a value goes into a register
  keeps_answered : (n : ℕ) (w : Width) (a : Answer) (i : Instr) (c : Cpu) → Keeps (answered n w a i c) c
  keeps_answered n w a i c =
      keeps_ended a.overflow
      (advanced n (with_condition a.condition (with_register w i.r1 a.value c))) c [] (λ h. h)

  -- a division puts its results into registers, or changes nothing
  keeps_divided : (n : ℕ) (w : Width) (i : Instr) (c : Cpu) (r : Result (ℕ × ℕ) DivideFault) →
      Keeps (divided n w i c r) c
  keeps_divided n w i c (Ok pair) = λ h. h
  keeps_divided n w i c (Err fault) = λ h. h

  -- any number of registers is loaded
  keeps_items : (k : ℕ) (w : Width) (r : ℕ) (bytes : List ℕ) (c : Cpu) → Lasts c (with_items k w r bytes c)
  unfolding with_items
  keeps_items zero w r bytes c = λ h. h
  keeps_items (suc k) w r bytes c = keeps_items k w r bytes c

  -- bytes that come of an instruction set the condition code or not
  keeps_code : (m : Combination) (bytes : List ℕ) (c : Cpu) → Lasts c (with_code_of m bytes c)
  keeps_code Move bytes c = λ h. h
  keeps_code (Logic l) bytes c = λ h. h

  -- a branch is taken or not
  keeps_going : (n : ℕ) (taken : Bool) (d : Option ℕ) (new c : Cpu) → Lasts c new →
      Lasts c (going n taken d new)
  keeps_going n true (Some a) new c h = h
  keeps_going n true None new c h = h
  keeps_going n false d new c h = h

  -- instructions on registers
  keeps_general : (k : General) (n : ℕ) (i : Instr) (c : Cpu) → Keeps (general_effect k n i c) c
  unfolding general_effect
  keeps_general (general.Compute o w s) n i c = keeps_answered n w _ i c
  keeps_general (general.ShiftFirst k) n i c = keeps_answered n Word _ i c
  keeps_general (general.ShiftThird k w) n i c = keeps_answered n w _ i c
  keeps_general (general.DivideWord) n i c = keeps_divided n Word i c _
  keeps_general (general.DivideDouble) n i c = keeps_divided n Double i c _
  keeps_general (general.DivideLogical) n i c = keeps_divided n Double i c _
  keeps_general (general.LoadSelected) n i c =
      one_of_two (selects i.mask c.condition) _ c c (λ h. h) (λ h. h)
  keeps_general k n i c = λ h. h

  -- instructions on storage
  keeps_storage : (k : Storage) (n : ℕ) (i : Instr) (c : Cpu) (bytes : List ℕ) →
      Keeps (storage_effect k n i c bytes) c
  unfolding storage_effect
  keeps_storage (storage.Compute o w p) n i c bytes = keeps_answered n w _ i c
  keeps_storage (storage.AddImmediate w) n i c bytes =
      let a = add_of w (number (item w) bytes) (modulo (bits w) i.imm) in
      keeps_ended a.overflow (advanced n (with_condition a.condition c)) c _ (λ h. h)
  keeps_storage (storage.LoadMany w) n i c bytes = keeps_items _ w _ bytes c
  keeps_storage (storage.CompareAndSwap w) n i c bytes =
      either_way (nat_eq (operand_in w c i.r1) (number (item w) bytes)) _ _ c (λ h. h) (λ h. h)
  keeps_storage (storage.LoadAnd o w) n i c bytes =
      let old = number (item w) bytes in
      let a = combined o w c.condition old (operand_in w c i.r3) in
      keeps_ended a.overflow (advanced n (with_condition a.condition (with_register w i.r1 old c))) c _ (λ h. h)
  keeps_storage (storage.LoadSelected) n i c bytes =
      one_of_two (selects i.mask c.condition) _ c c (λ h. h) (λ h. h)
  keeps_storage (storage.ByteByByte m) n i c bytes = keeps_code m _ c
  keeps_storage k n i c bytes = λ h. h

  -- branches; a service call halts the CPU
  keeps_branch : (k : Branch) (n : ℕ) (i : Instr) (c : Cpu) →
      (is_service (kind.Branch k) ≡ true → P c.state c.prefix → P Halted c.prefix) →
      Keeps (branch_effect k n i c) c
  unfolding branch_effect
  keeps_branch (branch.OnCondition p) n i c service = keeps_going n _ _ c c (λ h. h)
  keeps_branch (branch.OnCount p w) n i c service = keeps_going n _ _ _ c (λ h. h)
  keeps_branch (branch.AndSave p) n i c service = keeps_going n true (destination p i c) _ c (λ h. h)
  keeps_branch (branch.OnCompare o w) n i c service = keeps_going n _ _ c c (λ h. h)
  keeps_branch (branch.OnCompareImmediate) n i c service = keeps_going n _ _ c c (λ h. h)
  keeps_branch (branch.ServiceCall) n i c service = service refl

  -- the transaction instructions
  keeps_transaction : (k : Transaction) (n : ℕ) (i : Instr) (c : Cpu) (depth : ℕ) →
      Keeps (transaction_effect k n i c depth) c
  unfolding transaction_effect
  keeps_transaction (transaction.Abort) n i c depth = λ h. h
  keeps_transaction k n i c depth = λ h. h

  -- any of them, by its kind
  keeps_effect : (k : Kind) (n : ℕ) (i : Instr) (c : Cpu) (depth : ℕ) (bytes : List ℕ) →
      (is_service k ≡ true → P c.state c.prefix → P Halted c.prefix) → Keeps (effect k n i c depth bytes) c
  keeps_effect (kind.General g) n i c depth bytes service = keeps_general g n i c
  keeps_effect (kind.Storage s) n i c depth bytes service = keeps_storage s n i c bytes
  keeps_effect (kind.Branch b) n i c depth bytes service = keeps_branch b n i c service
  keeps_effect (kind.Transaction t) n i c depth bytes service = keeps_transaction t n i c depth

  -- what is true stays so behind an instruction, if it does where a service call halts the CPU
  pub lasts : (i : Instr) (c : Cpu) (depth : ℕ) (bytes : List ℕ) →
      (is_service (kind_at i.op.number) ≡ true → P c.state c.prefix → P Halted c.prefix) →
      Keeps (one i c depth bytes) c
  lasts i c depth bytes service = keeps_effect (kind_at i.op.number) (length_of i) i c depth bytes service
