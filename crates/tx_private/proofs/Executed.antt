-- From what a call says of an instruction to what the machine wants of it.
use Rattle.std.proofs.Common.{◌≡◌, ℕ, ◌+◌, ◌≤◌, List}
use Rattle.std.proofs.Common.{length}
use Rattle.std.proofs.Common.{refl, sym, ap, subst, ◌∙◌, arith}
use Rattle.std.proofs.lemmas.List.{take_all}
use Rattle.std.specs.Prelude.{Result}
use Rattle.byteorder.specs.Endian.{big_bytes}
use Rattle.byteorder.specs.Numbers.{length-bytes_high_first}
use Rattle.z_regs.specs.Cpu.{Cpu}
use Rattle.z_instr.specs.declared.instr.Instr.{Instr}
use Rattle.z_instr.specs.declared.operand.Operands.{Operands}
use Rattle.z_instr.specs.declared.operand.Operands.TheVariants.{Stored}
use Rattle.z_instr.specs.declared.operand.Size.TheVariants.{Doubleword}
use Rattle.z_instr.specs.Operands.{Span, spans_in, first_address}
use Rattle.tx_control.specs.declared.exceptions.Exception.{Exception}
use Rattle.z_instr.specs.declared.kind.Kind.{Kind}
use Rattle.z_instr.specs.declared.kind.Kind.TheVariants as kind
use Rattle.z_instr.specs.declared.kind.Transaction.{Transaction}
use Rattle.z_instr.specs.declared.kind.Transaction.TheVariants as transaction
use Rattle.z_instr.specs.Table.{kind_at}
use Rattle.z_instr.specs.Kinds.{operands_of, transaction_operands}
use Rattle.z_effect.specs.Registers.{register}
use Rattle.z_effect.specs.TransactionEffect.{transaction_effect}
use Rattle.z_effect.specs.Outcome.{Outcome}
use Rattle.z_effect.specs.One.{effect, length_of}
use Rattle.z_effect.specs.After.{touched, ranges_of, cpu_after, storage_after, answer_of, told, Executes}
use Rattle.z_effect.specs.After.{AreInside}
use Rattle.z_effect.specs.After.{written, with_stored}
use Rattle.z_instr.proofs.TableFacts.{operands_at}
use Rattle.tx_private.specs.declared.execution.Completion.{Completion}
use Rattle.tx_private.specs.declared.execution.Completion.TheVariants as done
use Rattle.tx_private.specs.Done.{completion_of, outcome_at, IsExecuted}

-- of an instruction that is not about transactions
pub executed : (depth : ℕ) (i : Instr) (c after : Cpu) (s t : List ℕ) (r : Result (Unit {0}) Exception)
    (done : Completion) → ((n : ℕ) (o : Outcome) → told r ≡ answer_of n o → done ≡ completion_of o)
    → Executes depth i c after s t r → IsExecuted depth i c after s t done
executed depth i c after s t r done answers h = record {
  answer = answers (length_of i) (outcome_at depth i c s) h.answer;
  image = h.image;
  storage = h.view;
}

-- ---- of the seven

-- operands and outcome by the kind
transaction_outcome : (depth : ℕ) (i : Instr) (k : Transaction) (c : Cpu) (s : List ℕ)
    → kind_at i.op.number ≡ kind.Transaction k
    → outcome_at depth i c s ≡ transaction_effect k (length_of i) i c depth
transaction_outcome depth i k c s e =
    ap (λ (q : Kind). effect q (length_of i) i c depth (touched (ranges_of i c) s)) e

transaction_ranges : (i : Instr) (k : Transaction) (c : Cpu) → kind_at i.op.number ≡ kind.Transaction k
    → ranges_of i c ≡ spans_in (transaction_operands k) i c.general c.condition
transaction_ranges i k c e =
    ap (λ (o : Operands). spans_in o i c.general c.condition)
    (operands_at i.op.number i.op.known ∙ ap operands_of e)

-- an outcome that stores nothing, over no operands
abbrev Leaves : Outcome → List Span → Cpu → Cpu → List ℕ → List ℕ → Completion → Type 0
Leaves o rs c after s t done = record {
  answer : done ≡ completion_of o;
  image : after ≡ cpu_after c o;
  storage : t ≡ storage_after rs s o;
}

leaves_executed : (depth n : ℕ) (i : Instr) (k : Transaction) (c after : Cpu) (s t : List ℕ) (done :
    Completion)
    → kind_at i.op.number ≡ kind.Transaction k → n ≡ length_of i
    → Leaves (transaction_effect k n i c depth) (spans_in (transaction_operands k) i c.general c.condition) c
    after
    s t done
    → IsExecuted depth i c after s t done
leaves_executed depth n i k c after s t done e l h =
    let same : transaction_effect k n i c depth ≡ outcome_at depth i c s =
    ap (λ (m : ℕ). transaction_effect k m i c depth) l ∙ sym (transaction_outcome depth i k c s e) in
    let ranges = sym (transaction_ranges i k c e) in
    record {
      answer = h.answer ∙ ap completion_of same;
      image = h.image ∙ ap (cpu_after c) same;
      storage = h.storage ∙ ap (λ o. storage_after (spans_in (transaction_operands k) i c.general
          c.condition) s o) same
          ∙ ap (λ rs. storage_after rs s (outcome_at depth i c s)) ranges;
    }

pub abort_done : (depth n : ℕ) (i : Instr) (k : Transaction) (c : Cpu) (s : List ℕ)
    → kind_at i.op.number ≡ kind.Transaction k → k ≡ transaction.Abort → n ≡ length_of i
    → IsExecuted depth i c c s s (done.Aborts (first_address i c.general))
unfolding transaction_effect
abort_done depth n i k c s e is l =
    leaves_executed depth n i transaction.Abort c c s s (done.Aborts (first_address i c.general))
    (e ∙ ap (λ (q : Transaction). kind.Transaction q) is) l
    record { answer = refl; image = refl; storage = refl }

lasting_stored : (i : Instr) (c : Cpu) (s : List ℕ)
    → written s (first_address i c.general) (big_bytes 8 (register c i.r1))
    ≡ with_stored (spans_in (Stored Doubleword) i c.general c.condition) (big_bytes 8 (register c i.r1)) s
unfolding spans_in
lasting_stored i c s =
    ap (written s (first_address i c.general))
    (sym (take_all 8 (big_bytes 8 (register c i.r1))
    (let e = length-bytes_high_first 8 (register c i.r1) in omega (arith, e))))

pub lasting_done : (depth n : ℕ) (i : Instr) (k : Transaction) (c after : Cpu) (s t : List ℕ)
    → kind_at i.op.number ≡ kind.Transaction k → k ≡ transaction.StoreLasting → n ≡ length_of i
    → after ≡ cpu_after c (transaction_effect k n i c depth)
    → t ≡ written s (first_address i c.general) (big_bytes 8 (register c i.r1))
    → IsExecuted depth i c after s t done.Completed
unfolding transaction_effect
lasting_done depth n i k c after s t e is l image stored =
    leaves_executed depth n i transaction.StoreLasting c after s t done.Completed
    (e ∙ ap (λ (q : Transaction). kind.Transaction q) is) l
    record {
      answer = refl;
      image = image ∙ ap (λ (q : Transaction). cpu_after c (transaction_effect q n i c depth)) is;
      storage = stored ∙ lasting_stored i c s;
    }

-- the five others
bare_done : (depth n : ℕ) (i : Instr) (k : Transaction) (c after : Cpu) (s : List ℕ)
    → (k ≡ transaction.Abort → ⊥) → (k ≡ transaction.StoreLasting → ⊥)
    → after ≡ cpu_after c (transaction_effect k n i c depth)
    → Leaves (transaction_effect k n i c depth) (spans_in (transaction_operands k) i c.general c.condition) c
    after
    s s done.Completed
unfolding transaction_effect spans_in
bare_done depth n i transaction.Begin c after s a b image =
    record { answer = refl; image = image; storage = refl }
bare_done depth n i transaction.BeginConstrained c after s a b image =
    record { answer = refl; image = image; storage = refl }
bare_done depth n i transaction.End c after s a b image =
    record { answer = refl; image = image; storage = refl }
bare_done depth n i transaction.Abort c after s a b image = absurd (a refl)
bare_done depth n i transaction.ExtractDepth c after s a b image =
    record { answer = refl; image = image; storage = refl }
bare_done depth n i transaction.StoreLasting c after s a b image = absurd (b refl)
bare_done depth n i transaction.Assist c after s a b image =
    record { answer = refl; image = image; storage = refl }

pub other_done : (depth n : ℕ) (i : Instr) (k : Transaction) (c after : Cpu) (s : List ℕ)
    → (k ≡ transaction.Abort → ⊥) → (k ≡ transaction.StoreLasting → ⊥)
    → kind_at i.op.number ≡ kind.Transaction k → n ≡ length_of i
    → after ≡ cpu_after c (transaction_effect k n i c depth)
    → IsExecuted depth i c after s s done.Completed
other_done depth n i k c after s a b e l image =
    leaves_executed depth n i k c after s s done.Completed e l (bare_done depth n i k c after s a b image)

-- where NTSTG stores lies in storage
pub lasting_inside : (i : Instr) (k : Transaction) (c : Cpu) (s : List ℕ)
    → kind_at i.op.number ≡ kind.Transaction k → k ≡ transaction.StoreLasting
    → AreInside (ranges_of i c) s → first_address i c.general + 8 ≤ length s
unfolding spans_in
lasting_inside i k c s e is inside =
    let ranges = transaction_ranges i transaction.StoreLasting c
    (e ∙ ap (λ (q : Transaction). kind.Transaction q) is) in
    (subst (λ (rs : List Span). AreInside rs s) ranges inside).0
