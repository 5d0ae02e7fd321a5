-- Worked values of the definitions.
use Rattle.std.proofs.Common.{◌≡◌, refl, [], ◌∷◌, true, false}
use Rattle.z_arith.specs.declared.Width.TheVariants as width
use Rattle.z_arith.specs.Sum.{add_of, add_logical_of, subtract_logical_of}
use Rattle.z_arith.specs.Comparison.{compare_logical_of}
use Rattle.z_instr.specs.declared.operand.Size.TheVariants as size
use Rattle.z_instr.specs.Operands.{span}
use Rattle.z_regs.specs.Cpu.{Cpu, started}
use Rattle.z_instr.specs.declared.kind.Operation.TheVariants as operation
use Rattle.z_instr.specs.declared.kind.Part.TheVariants as part
use Rattle.z_instr.specs.declared.kind.Logic.TheVariants as logic
use Rattle.z_instr.specs.declared.kind.Combination.TheVariants as combination
use Rattle.z_effect.specs.Operations.{combined, extended}
use Rattle.z_effect.specs.Registers.{register, put_low, with_register, with_pair}
use Rattle.z_effect.specs.StorageEffect.{items, with_items, results, lead, order_of_bytes}
use Rattle.z_effect.specs.After.{touched, with_stored}

-- ---- operations

-- the largest word and one more: overflow
overflowing : combined operation.Add width.Word 0 0x7FFFFFFF 1 ≡
    record { value = 0x80000000; condition = 3; overflow = true }
unfolding combined add_of
overflowing = refl

-- code 2 tells of a carry, which is added
carrying : combined operation.AddWithCarry width.Double 2 5 6 ≡
    record { value = 12; condition = 1; overflow = false }
unfolding combined add_logical_of
carrying = refl

-- code 1 tells of a borrow, which is taken off
borrowing : combined operation.SubtractWithBorrow width.Double 1 6 5 ≡
    record { value = 0; condition = 2; overflow = false }
unfolding combined subtract_logical_of
borrowing = refl

-- a load leaves the code
loading : combined operation.Load width.Word 3 5 6 ≡ record { value = 6; condition = 3; overflow = false }
unfolding combined
loading = refl

negative_halfword : extended width.Word (part.Signed size.Halfword) 0x8001 ≡ 0xFFFF8001
negative_halfword = refl

plain_halfword : extended width.Double (part.Plain size.Halfword) 0x8001 ≡ 0x8001
plain_halfword = refl

-- ---- registers

halfword_put : put_low 16 0x123456789ABCDEF0 0x1111 ≡ 0x123456789ABC1111
halfword_put = refl

word_put : register
    (with_register width.Word 3 7 (with_register width.Double 3 0xAAAAAAAABBBBBBBB (started 0))) 3 ≡
    0xAAAAAAAA00000007
word_put = refl

around_fifteen : register (with_pair width.Double 15 1 2 (started 0)) 0 ≡ 2
around_fifteen = refl

-- the words of registers 15 and 0
two : Cpu
two = with_register width.Double 0 0x0102 (with_register width.Double 15 0x99999999AABBCCDD (started 0))

stored_around : items 2 width.Word 15 two ≡ 0xAA ∷ 0xBB ∷ 0xCC ∷ 0xDD ∷ 0 ∷ 0 ∷ 1 ∷ 2 ∷ []
unfolding items two
stored_around = refl

loaded_around : register (with_items 2 width.Word 15 (1 ∷ 2 ∷ 3 ∷ 4 ∷ 5 ∷ 6 ∷ 7 ∷ 8 ∷ []) (started 0)) 0 ≡
    0x05060708
unfolding with_items
loaded_around = refl

-- ---- bytes of two operands

-- three bytes that are moved one place to the right over themselves
spread : results 3 combination.Move (lead 3 101 100) (8 ∷ 9 ∷ 0 ∷ []) (7 ∷ 8 ∷ 9 ∷ []) ≡ 7 ∷ 7 ∷ 7 ∷ []
unfolding results
spread = refl

-- and one place to the left
shifted_left : results 3 combination.Move (lead 3 100 101) (7 ∷ 8 ∷ 9 ∷ []) (8 ∷ 9 ∷ 0 ∷ []) ≡ 8 ∷ 9 ∷ 0 ∷ []
unfolding results
shifted_left = refl

-- a field with itself
cleared : results 2 (combination.Logic logic.ExclusiveOr) (lead 2 100 100) (7 ∷ 8 ∷ []) (7 ∷ 8 ∷ []) ≡ 0 ∷
    0 ∷ []
unfolding results
cleared = refl

low_at_once : order_of_bytes (1 ∷ 2 ∷ 9 ∷ []) (1 ∷ 3 ∷ 0 ∷ []) ≡ 1
unfolding order_of_bytes compare_logical_of
low_at_once = refl

-- ---- ranges

both_operands : touched (span 1 2 true ∷ span 3 1 false ∷ []) (10 ∷ 11 ∷ 12 ∷ 13 ∷ 14 ∷ []) ≡ 11 ∷ 12 ∷
    13 ∷ []
both_operands = refl

-- the fetched operand is not written back
first_alone : with_stored (span 1 2 true ∷ span 3 1 false ∷ []) (7 ∷ 8 ∷ []) (10 ∷ 11 ∷ 12 ∷ 13 ∷ 14 ∷ []) ≡
    10 ∷ 7 ∷ 8 ∷ 13 ∷ 14 ∷ []
first_alone = refl
