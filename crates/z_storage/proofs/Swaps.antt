-- A compare and swap that finds its operands unequal.
use Rattle.std.proofs.Common.{◌≡◌, ℕ, ◌+◌, ◌≤◌, List, length, false, nat_eq, refl, sym, ap, ◌∙◌, Ok, subst}
use Rattle.std.proofs.Common.{arith}
use Rattle.z_arith.specs.declared.Width.{Width}
use Rattle.z_instr.specs.declared.instr.Instr.{Instr}
use Rattle.z_instr.specs.Operands.{bytes_of, first_address, spans_in}
use Rattle.z_regs.specs.Cpu.{Cpu}
use Rattle.z_instr.specs.declared.kind.Storage.TheVariants.{CompareAndSwap}
use Rattle.z_effect.specs.Registers.{operand_in, with_register, with_condition, advanced}
use Rattle.z_effect.specs.StorageEffect.{number, storage_effect}
use Rattle.z_instr.specs.Kinds.{item}
use Rattle.z_effect.specs.Outcome.{Did}
use Rattle.z_effect.specs.After.{range_at, answer_of, cpu_after, storage_after}
use Rattle.z_storage.specs.Performs.{ranges, Performs}
use Rattle.z_storage.proofs.Ranges.{stored_back}

-- the bytes of the operand
abbrev operand_at : Width → ℕ → List ℕ → List ℕ
operand_at w address s = range_at s address (bytes_of (item w))

-- the CPU then
abbrev refused : Width → ℕ → Instr → Cpu → ℕ → Cpu
refused w n i c second = advanced n (with_condition 1 (with_register w i.r1 second c))

outcome : (w : Width) (n : ℕ) (i : Instr) (c : Cpu) (bytes : List ℕ) →
    nat_eq (operand_in w c i.r1) (number (item w) bytes) ≡ false →
    storage_effect (CompareAndSwap w) n i c bytes ≡ Did (refused w n i c (number (item w) bytes)) bytes
unfolding storage_effect
outcome w n i c bytes h = rw h refl

unequal : (w : Width) (n : ℕ) (i : Instr) (c : Cpu) (s : List ℕ) → let bytes =
    operand_at w (first_address i c.general) s in
    nat_eq (operand_in w c i.r1) (number (item w) bytes) ≡ false →
    first_address i c.general + bytes_of (item w) ≤ length s
    → Performs (CompareAndSwap w) n i c (refused w n i c (number (item w) bytes)) s s (Ok tt)
unfolding spans_in
unequal w n i c s h l =
    let e = outcome w n i c (operand_at w (first_address i c.general) s) h in
    record {
      answer = sym (ap (answer_of n) e);
      image = sym (ap (cpu_after c) e);
      view = sym (ap (storage_after (ranges (CompareAndSwap w) i c) s) e ∙
          stored_back s (first_address i c.general) (bytes_of (item w)) l);
    }

differs : (a b second : ℕ) → second ≡ b → (a ≡ second → ⊥) → nat_eq a b ≡ false
differs a b second e h = grind arith

-- the same, by the address and the operand that the code has
pub swap_refused : (w : Width) (n : ℕ) (i : Instr) (c new : Cpu) (s : List ℕ) (address first second : ℕ) →
    address ≡ first_address i c.general → first ≡ operand_in w c i.r1
    → second ≡ number (item w) (operand_at w address s) → (first ≡ second → ⊥) →
    first_address i c.general + bytes_of (item w) ≤ length s → new ≡ refused w n i c second
    → Performs (CompareAndSwap w) n i c new s s (Ok tt)
swap_refused w n i c new s address first second a f e h l g =
    let known : second ≡ number (item w) (operand_at w (first_address i c.general) s) =
    e ∙ ap (λ k. number (item w) (operand_at w k s)) a in
    let apart : nat_eq (operand_in w c i.r1) (number (item w) (operand_at w (first_address i c.general) s)) ≡
    false = differs _ _ second known (λ same. h (f ∙ same)) in
    subst (λ (m : Cpu). Performs (CompareAndSwap w) n i c m s s (Ok tt))
    (sym (g ∙ ap (refused w n i c) known)) (unequal w n i c s apart l)
