-- Operands that pass the test of addressing lie in storage, by real and by absolute addresses.
use Rattle.std.proofs.Common.{◌≡◌, ℕ, ◌+◌, ◌-◌, ◌≤◌, true, List}
use Rattle.std.proofs.Common.{None, sym, subst, length}
use Rattle.std.specs.List.{All}
use Rattle.std.proofs.lemmas.List.{length-map}
use Rattle.z_regs.specs.Prefix.{storage_size, is_prefix}
use Rattle.z_regs.specs.Absolute.{IsAccessible, absolute_ranges}
use Rattle.z_instr.specs.declared.instr.Instr.{Instr}
use Rattle.z_instr.specs.Table.{entry_at}
use Rattle.z_instr.specs.Operands.{spans}
use Rattle.z_instr.proofs.SmallOperands.{sizes, count}
use Rattle.z_touch.specs.Refusals.{range_of}
use Rattle.z_touch.proofs.SmallRanges.{all_end_inside}
use Rattle.z_effect.specs.After.{AreInside, ranges_of}
use Rattle.z_effect.proofs.Stored.{are_inside}
use Rattle.tx_footprint.specs.Places.{IsInStorage}
use Rattle.tx_serial.specs.Attempt.{Run}
use Rattle.tx_serial.specs.Fate.{operand_refusal, operands}
use Rattle.tx_serial.proofs.FreeOperands.{operands_inside}
use Rattle.tx_serial.proofs.Reached.{accessible_spans, ranges_in_storage}

-- ---- by real addresses

pub accessible : (text : List ℕ) (p : Run) (i : Instr) → operand_refusal text p i ≡ None
    → All (IsAccessible p.cpu.prefix) (operands i p.cpu)
accessible text p i h =
    accessible_spans p.cpu.prefix (spans i p.cpu.general p.cpu.condition)
    (sizes (entry_at i.op.number).operands i p.cpu.general p.cpu.condition) (operands_inside text p i h)

pub few : (p : Run) (i : Instr) → length (operands i p.cpu) ≤ 2
few p i =
    let all = spans i p.cpu.general p.cpu.condition in
    subst (λ n. n ≤ 2) (sym (length-map all range_of))
    (count (entry_at i.op.number).operands i p.cpu.general p.cpu.condition)

pub inside : (text : List ℕ) (p : Run) (i : Instr) (s : List ℕ) → length s ≡ storage_size
    → operand_refusal text p i ≡ None → AreInside (ranges_of i p.cpu) s
inside text p i s size h =
    let all = spans i p.cpu.general p.cpu.condition in
    are_inside all s (subst (λ n. All (λ r. r.first + r.length ≤ n) all) (sym size)
    (all_end_inside p.cpu.prefix all (sizes (entry_at i.op.number).operands i p.cpu.general p.cpu.condition)
    (operands_inside text p i h)))

-- ---- by absolute addresses

pub in_storage : (text : List ℕ) (p : Run) (i : Instr) → is_prefix p.cpu.prefix ≡ true
    → operand_refusal text p i ≡ None → All IsInStorage (absolute_ranges p.cpu.prefix (operands i p.cpu))
in_storage text p i ok h = ranges_in_storage p.cpu.prefix (operands i p.cpu) ok (accessible text p i h)
