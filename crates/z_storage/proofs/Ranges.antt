-- Storage after an operation on one range.
use Rattle.std.proofs.Common.{◌≡◌, ℕ, List, [], ◌∷◌, ◌&&◌, Bool, take, true, false, refl, ap, ◌∙◌, ◌+◌, ◌≤◌}
use Rattle.std.proofs.Common.{length, drop, arith}
use Rattle.std.proofs.lemmas.List.{take_all, length-take}
use Rattle.std.specs.Prelude.{nat_le, if◌then◌else◌}
use Rattle.z_instr.specs.declared.operand.Size.{Size}
use Rattle.z_instr.specs.declared.operand.Size.TheVariants.{Byte, Halfword, Word, Doubleword}
use Rattle.z_instr.specs.Operands.{bytes_of, span}
use Rattle.z_regs.specs.Cpu.{Cpu}
use Rattle.z_effect.specs.StorageEffect.{stored}
use Rattle.z_effect.specs.Outcome.{Outcome, Did, Overflowed, Divides, Aborts, ended}
use Rattle.z_effect.specs.After.{written, range_at, storage_after}
use Rattle.z_regs.proofs.Writes.{written_same}

-- what is only fetched stays
pub fetched_stays : (a n : ℕ) (s : List ℕ) (o : Outcome) → storage_after (span a n false ∷ []) s o ≡ s
fetched_stays a n s (Did c bytes) = refl
fetched_stays a n s (Overflowed c bytes) = refl
fetched_stays a n s Divides = refl
fetched_stays a n s (Aborts code) = refl

-- the bytes of an item are as many as the item has
pub whole_item : (size : Size) (value : ℕ) → take (bytes_of size) (stored size value) ≡ stored size value
whole_item Byte value = refl
whole_item Halfword value = refl
whole_item Word value = refl
whole_item Doubleword value = refl

-- an item is stored, whether there is an exception or not
by_overflow : (b : Bool) (a : ℕ) (size : Size) (value : ℕ) (c : Cpu) (s : List ℕ) →
    storage_after (span a (bytes_of size) true ∷ []) s (if b then Overflowed c (stored size value)
    else Did c (stored size value)) ≡ written s a (stored size value)
by_overflow true a size value c s = ap (written s a) (whole_item size value)
by_overflow false a size value c s = ap (written s a) (whole_item size value)

pub stored_item : (overflow : Bool) (a : ℕ) (size : Size) (value : ℕ) (c : Cpu) (s : List ℕ) →
    storage_after (span a (bytes_of size) true ∷ []) s (ended overflow c (stored size value)) ≡
    written s a (stored size value)
stored_item overflow a size value c s = by_overflow (overflow && nat_le 8 c.mask) a size value c s

-- a range whose bytes are stored back stays
pub stored_back : (s : List ℕ) (a n : ℕ) → a + n ≤ length s → written s a (take n (range_at s a n)) ≡ s
stored_back s a n h =
    ap (written s a) (take_all n (range_at s a n) (omega (arith, length-take n (drop a s))))
    ∙ written_same s a n h
