-- From a kind to its instruction.
use Rattle.std.proofs.Common.{◌≡◌, ℕ, ◌<◌, List, length, get_or, true, refl, sym, ap, ◌∙◌, Result, subst}
use Rattle.tx_control.specs.declared.exceptions.Exception.{Exception}
use Rattle.z_instr.specs.declared.table.TheConstants.{ROWS}
use Rattle.z_instr.specs.declared.instr.Instr.{Instr}
use Rattle.z_instr.specs.declared.operand.Operands.{Operands}
use Rattle.z_instr.specs.Facts.{has_two_lists}
use Rattle.z_instr.specs.Operands.{Span, spans_in}
use Rattle.z_instr.specs.Ranges.{is_within, bounds}
use Rattle.z_instr.specs.Table.{entry_at}
use Rattle.z_instr.proofs.PlainImmediates as plain
use Rattle.z_regs.specs.Cpu.{Cpu}
use Rattle.z_instr.specs.declared.kind.Kind.{Kind}
use Rattle.z_instr.specs.declared.kind.Kind.TheVariants as kind
use Rattle.z_instr.specs.declared.kind.Storage.{Storage}
use Rattle.z_instr.specs.Kinds.{operands_of, storage_operands}
use Rattle.z_instr.specs.Table.{kind_at}
use Rattle.z_effect.specs.One.{effect, length_of}
use Rattle.z_effect.specs.Outcome.{Outcome, Did, Overflowed, Divides, Aborts}
use Rattle.z_effect.specs.After.{touched, storage_after, AreInside, IsBeside, Leaves, ranges_of, Executes}
use Rattle.z_instr.proofs.TableFacts.{operands_at}
use Rattle.z_effect.proofs.Stored.{same_size, same_elsewhere}
use Rattle.z_storage.specs.Performs.{ranges, Performs}

-- ---- operands

operands_are : (i : Instr) (k : Storage) → i.op.number < ROWS → kind_at i.op.number ≡ kind.Storage k →
    (entry_at i.op.number).operands ≡ storage_operands k
operands_are i k h e = operands_at i.op.number h ∙ ap operands_of e

pub ranges_are : (i : Instr) (c : Cpu) (k : Storage) → i.op.number < ROWS →
    kind_at i.op.number ≡ kind.Storage k → ranges_of i c ≡ ranges k i c
ranges_are i c k h e = ap (λ (o : Operands). spans_in o i c.general c.condition) (operands_are i k h e)

pub length_code : (i : Instr) (k : Storage) → i.op.number < ROWS → kind_at i.op.number ≡ kind.Storage k →
    has_two_lists (storage_operands k) ≡ true → is_within (bounds 0 256) i.imm ≡ true
length_code i k h e two = plain.lists i (ap has_two_lists (operands_are i k h e) ∙ two)

-- ---- what is left

pub executes : (depth n : ℕ) (i : Instr) (k : Storage) (old new : Cpu) (s t : List ℕ) (r :
    Result (Unit {0}) Exception) → i.op.number < ROWS → kind_at i.op.number ≡ kind.Storage k → n ≡ length_of i
    → Performs k n i old new s t r → Executes depth i old new s t r
executes depth n i k old new s t r h e l performs =
    let leaves = λ (q : Kind) (m : ℕ) (rs : List Span).
    Leaves (effect q m i old depth (touched rs s)) m rs old new s t r in
    subst (λ (q : Kind). leaves q (length_of i) (ranges_of i old)) (sym e)
    (subst (leaves (kind.Storage k) (length_of i)) (sym (ranges_are i old k h e))
    (subst (λ (m : ℕ). leaves (kind.Storage k) m (ranges k i old)) l performs))

after_size : (o : Outcome) (rs : List Span) (s : List ℕ) → AreInside rs s →
    length (storage_after rs s o) ≡ length s
after_size (Did c bytes) rs s h = same_size rs bytes s h
after_size (Overflowed c bytes) rs s h = same_size rs bytes s h
after_size Divides rs s h = refl
after_size (Aborts code) rs s h = refl

after_elsewhere : (o : Outcome) (rs : List Span) (s : List ℕ) (k : ℕ) → AreInside rs s → IsBeside k rs →
    get_or (storage_after rs s o) k 0 ≡ get_or s k 0
after_elsewhere (Did c bytes) rs s k h o = same_elsewhere rs bytes s k h o
after_elsewhere (Overflowed c bytes) rs s k h o = same_elsewhere rs bytes s k h o
after_elsewhere Divides rs s k h o = refl
after_elsewhere (Aborts code) rs s k h o = refl

pub leaves_size : (rs : List Span) (k : Storage) (n : ℕ) (i : Instr) (old new : Cpu) (s t : List ℕ) (r :
    Result (Unit {0}) Exception) → rs ≡ ranges k i old → AreInside rs s → Performs k n i old new s t r
    → length t ≡ length s
leaves_size rs k n i old new s t r e h performs =
    ap length performs.view ∙ after_size _ (ranges k i old) s (subst (λ (q : List Span). AreInside q s) e h)

pub leaves_elsewhere : (rs : List Span) (k : Storage) (n : ℕ) (i : Instr) (old new : Cpu) (s t : List ℕ) (r :
    Result (Unit {0}) Exception) (j : ℕ) → rs ≡ ranges k i old → AreInside rs s → IsBeside j rs
    → Performs k n i old new s t r → get_or t j 0 ≡ get_or s j 0
leaves_elsewhere rs k n i old new s t r j e h beside performs =
    ap (λ u. get_or u j 0) performs.view
    ∙ after_elsewhere _ (ranges k i old) s j (subst (λ (q : List Span). AreInside q s) e h)
    (subst (IsBeside j) e beside)
