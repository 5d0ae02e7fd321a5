-- The operands in storage of an instruction that passes the operand tests lie in storage.
use Rattle.std.proofs.Common.{◌≡◌, ℕ, ◌+◌, ◌<◌, ◌≤◌, Bool, true, false, ◌&&◌, not, List, length}
use Rattle.std.proofs.Common.{Option, None, Some, Ok, refl, sym, ap, subst, ◌∙◌}
use Rattle.std.specs.List.{All, list_all}
use Rattle.z_instr.specs.declared.table.TheConstants.{ROWS}
use Rattle.z_instr.specs.declared.instr.Instr.{Instr}
use Rattle.z_instr.specs.Table.{Entry, table, entry_at, no_entry}
use Rattle.z_instr.specs.Facts.{is_begin}
use Rattle.z_instr.specs.Operands.{is_inside, unspecified}
use Rattle.z_instr.specs.Operands.{inaccessible, inaccessible_in}
use Rattle.z_instr.proofs.Passing.{passes}
use Rattle.z_instr.proofs.SmallOperands.{sizes}
use Rattle.z_regs.specs.declared.ranges.Range.{Range}
use Rattle.z_regs.specs.Cpu.{Cpu}
use Rattle.z_regs.specs.Prefix.{storage_size}
use Rattle.z_instr.specs.Table.{kind_at}
use Rattle.z_effect.specs.Facts.{is_storage}
use Rattle.z_effect.specs.After.{AreInside, ranges_of}
use Rattle.z_effect.proofs.Stored.{are_inside}
use Rattle.z_instr.specs.Access.{accessible_pages, text_pages}
use Rattle.z_touch.specs.Refusals.{answer, first_of, refusal}
use Rattle.z_touch.proofs.SmallRanges.{all_end_inside}
use Rattle.z_touch.proofs.Reach.{accessible, tested_all}
use Rattle.z_instr.proofs.ComputedReading.{rows}
use Rattle.z_instr.proofs.PlainImmediates.{not_second}

-- ---- no operation on storage begins a transaction, so its operands are what is tested

abbrev does_not_begin : Entry → Bool
does_not_begin e = not (is_storage e.kind && is_begin e.demand)

none_begins : list_all does_not_begin table ≡ true
unfolding table
none_begins = refl

begins_not : (n : ℕ) → n < ROWS → not (is_storage (kind_at n) && is_begin (entry_at n).demand) ≡ true
unfolding entry_at kind_at
begins_not n h = passes does_not_begin table n no_entry none_begins (rows n h)

-- ---- what passes is accessible

pages_accessible : (i : Instr) (c : Cpu) (depth : ℕ) (pages text : List ℕ) →
    is_begin (entry_at i.op.number).demand ≡ false →
    inaccessible i c.general c.condition depth pages text ≡ None →
    list_all (is_inside pages) (ranges_of i c) ≡ true
unfolding inaccessible_in
pages_accessible i c depth pages text plain e =
    ap (list_all (is_inside pages))
    (sym (tested_all (entry_at i.op.number).demand (ranges_of i c) i c.general depth plain))
    ∙ accessible _ _ _ e

-- ---- what is answered with ranges passes

second_none : (a b : Option ℕ) → first_of a b ≡ None → b ≡ None
second_none None b e = e
second_none (Some code) b e = cc

answered : (o : Option ℕ) (i : Instr) (x y : List Range) → Ok x ≡ answer o i y → o ≡ None
answered None i x y e = refl
answered (Some code) i x y e = cc

pub let_through : (i : Instr) (c : Cpu) (depth : ℕ) (text : List ℕ) (x y : List Range) → i.op.number < ROWS →
    Ok x ≡ answer (refusal i c depth text) i y →
    (s : List ℕ) → length s ≡ storage_size → is_storage (kind_at i.op.number) ≡ true → AreInside (ranges_of i c) s
let_through i c depth text x y known e s size mine =
    let plain : is_begin (entry_at i.op.number).demand ≡ false =
    not_second (is_storage (kind_at i.op.number)) _ (begins_not i.op.number known) mine in
    let tested = inaccessible i c.general c.condition depth (accessible_pages c.prefix) (text_pages c.prefix text) in
    let passes : tested ≡ None = second_none (unspecified i c.general depth) tested (answered _ i x y e) in
    let small = sizes (entry_at i.op.number).operands i c.general c.condition in
    are_inside (ranges_of i c) s (subst (λ n. All (λ r. r.first + r.length ≤ n) (ranges_of i c)) (sym size)
    (all_end_inside c.prefix (ranges_of i c) small
    (pages_accessible i c depth (accessible_pages c.prefix) (text_pages c.prefix text) plain passes)))
