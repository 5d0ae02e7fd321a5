-- Operands have at most 256 bytes, and so have the bytes that are kept of them.
use Rattle.std.proofs.Common.{◌≡◌, ◌≤◌, ℕ, List, length, take, drop, map, get_or, ap, arith}
use Rattle.std.proofs.lemmas.List.{length-take}
use Rattle.std.proofs.Math.Nat.{min-le_left}
use Rattle.std.specs.Prelude.{All, Option}
use Rattle.z_regs.specs.declared.ranges.Range.{Range}
use Rattle.z_regs.specs.Absolute.{IsAccessible}
use Rattle.z_effect.specs.After.{range_at}
use Rattle.z_instr.specs.Operands.{from_up}
use Rattle.tx_attempt.specs.Performed.{no_range}
use Rattle.tx_attempt.proofs.Returning.{operand-small, length-seen}

-- an operand, also by another name
pub small-so : (prefix : Option ℕ) (need : List Range) (i : ℕ) (r : Range) → All (IsAccessible prefix) need
    → r ≡ get_or need i no_range → r.length ≤ 256
small-so prefix need i r accessible e =
    omega (arith, operand-small prefix need i accessible, ap (λ (r : Range). r.length) e)

-- room for it
pub part-small : (n : ℕ) (room : List ℕ) → n ≤ 256 → length (take n room) ≤ 256
part-small n room h = omega (arith, h, length-take n room, min-le_left n (length room))

-- bytes of storage
pub range-small : (s : List ℕ) (a n : ℕ) (xs : List ℕ) → xs ≡ range_at s a n → n ≤ 256 → length xs ≤ 256
range-small s a n xs e h = omega (arith, ap length e, part-small n (drop a s) h)

-- bytes that are seen
pub seen-small : (f : ℕ → ℕ) (a n : ℕ) (xs : List ℕ) → xs ≡ map f (from_up a n) → n ≤ 256 → length xs ≤ 256
seen-small f a n xs e h = omega (arith, ap length e, length-seen f a n, h)
