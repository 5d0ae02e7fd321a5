-- What is left by an instruction that has no operand in storage.
use Rattle.std.proofs.Common.{◌≡◌, ℕ, ◌<◌, List, [], refl, sym, ap, ◌∙◌, Result}
use Rattle.tx_control.specs.declared.exceptions.Exception.{Exception}
use Rattle.z_instr.specs.declared.table.TheConstants.{ROWS}
use Rattle.z_instr.specs.declared.instr.Instr.{Instr}
use Rattle.z_instr.specs.declared.operand.Operands.{Operands}
use Rattle.z_instr.specs.declared.operand.Operands.TheVariants.{Absent}
use Rattle.z_instr.specs.Table.{entry_at}
use Rattle.z_instr.specs.Operands.{Span, spans_in}
use Rattle.z_regs.specs.Cpu.{Cpu}
use Rattle.z_instr.specs.declared.kind.Kind.{Kind}
use Rattle.z_instr.specs.Table.{kind_at}
use Rattle.z_instr.specs.Kinds.{operands_of}
use Rattle.z_effect.specs.Outcome.{Outcome, Did, Overflowed, Divides, Aborts}
use Rattle.z_effect.specs.One.{effect, one, length_of}
use Rattle.z_effect.specs.After.{touched, answer_of, cpu_after, storage_after, Sets, ranges_of, Executes}
use Rattle.z_instr.proofs.TableFacts.{operands_at}

no_ranges : (i : Instr) (c : Cpu) → (entry_at i.op.number).operands ≡ Absent → ranges_of i c ≡ []
unfolding spans_in
no_ranges i c e = ap (λ (o : Operands). spans_in o i c.general c.condition) e

same_storage : (o : Outcome) (s : List ℕ) → storage_after [] s o ≡ s
same_storage (Did c bytes) s = refl
same_storage (Overflowed c bytes) s = refl
same_storage Divides s = refl
same_storage (Aborts code) s = refl

-- an outcome that is set, of a kind that has no operand in storage, is all that the instruction does
pub executes : (depth n : ℕ) (i : Instr) (k : Kind) (o : Outcome) (old new : Cpu) (s : List ℕ)
    (r : Result (Unit {0}) Exception) → i.op.number < ROWS → n ≡ length_of i → kind_at i.op.number ≡ k →
    operands_of k ≡ Absent → ((bytes : List ℕ) → effect k n i old depth bytes ≡ o) → Sets o n old new r →
    Executes depth i old new s s r
executes depth n i k o old new s r h l e a f sets =
    let bytes : List ℕ = touched (ranges_of i old) s in
    let none : ranges_of i old ≡ [] = no_ranges i old (operands_at i.op.number h ∙ ap operands_of e ∙ a) in
    let same : one i old depth bytes ≡ o =
    ap (λ (q : Kind). effect q (length_of i) i old depth bytes) e
    ∙ ap (λ (m : ℕ). effect k m i old depth bytes) (sym l) ∙ f bytes in
    record {
      answer = sets.answer ∙ ap (λ (m : ℕ). answer_of m o) l ∙ ap (answer_of (length_of i)) (sym same);
      image = sets.image ∙ ap (cpu_after old) (sym same);
      view = sym (ap (λ (rs : List Span). storage_after rs s (one i old depth bytes)) none
          ∙ same_storage (one i old depth bytes) s);
    }
