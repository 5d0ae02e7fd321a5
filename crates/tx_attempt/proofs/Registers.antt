-- An instruction that stores the doubleword of R1, and does no more.
use Rattle.std.proofs.Common.{◌≡◌, ℕ, ◌≤◌, List, ◌++◌, refl, ap, sym, subst, ◌∙◌, arith, length, get_or, take, drop}
use Rattle.std.specs.Prelude.{map}
use Rattle.std.proofs.lemmas.List.{take-append-le}
use Rattle.byteorder.specs.Endian.{big_bytes}
use Rattle.byteorder.specs.Numbers.{length-bytes_high_first}
use Rattle.z_regs.specs.Cpu.{Cpu}
use Rattle.z_regs.specs.declared.ranges.Range.{Range}
use Rattle.z_touch.specs.Refusals.{range_of}
use Rattle.z_instr.specs.declared.instr.Instr.{Instr}
use Rattle.z_instr.specs.declared.kind.Kind.{Kind}
use Rattle.z_instr.specs.declared.kind.Kind.TheVariants as kind
use Rattle.z_instr.specs.declared.kind.Storage.TheVariants.{Store}
use Rattle.z_instr.specs.declared.operand.Operands.{Operands}
use Rattle.z_instr.specs.declared.operand.Operands.TheVariants.{Stored}
use Rattle.z_instr.specs.declared.operand.Size.TheVariants.{Doubleword}
use Rattle.z_instr.specs.Kinds.{operands_of}
use Rattle.z_instr.specs.Operands.{spans_in}
use Rattle.z_instr.specs.Table.{entry_at, kind_at}
use Rattle.z_instr.proofs.TableFacts.{operands_at}
use Rattle.z_effect.specs.One.{one, effect, length_of}
use Rattle.z_effect.specs.Registers.{register, advanced}
use Rattle.z_effect.specs.StorageEffect.{storage_effect}
use Rattle.tx_serial.specs.Fate.{operands}
use Rattle.z_effect.specs.After.{cpu_after}
use Rattle.z_effect.specs.Outcome.{Did}
use Rattle.tx_attempt.specs.declared.performing.Ended.{Ended}
use Rattle.tx_attempt.specs.declared.performing.Ended.TheVariants as ended
use Rattle.tx_attempt.specs.Performed.{first_size, no_range, trimmed, outcome_from, IsKeptApart}

-- the CPU goes on behind it, and stores its register, whatever storage has
pub register-outcome : (i : Instr) (c : Cpu) (depth : ℕ) (bytes : List ℕ)
    → kind_at i.op.number ≡ kind.Storage (Store Doubleword)
    → one i c depth bytes ≡ Did (advanced (length_of i) c) (big_bytes 8 (register c i.r1))
unfolding storage_effect
register-outcome i c depth bytes h = ap (λ (k : Kind). effect k (length_of i) i c depth bytes) h

-- so what is kept apart is the register
pub register-kept : (i : Instr) (c new : Cpu) (depth value : ℕ) (bytes old : List ℕ)
    → kind_at i.op.number ≡ kind.Storage (Store Doubleword) → value ≡ register c i.r1
    → new ≡ advanced (length_of i) c
    → IsKeptApart (one i c depth bytes) 8 c new (big_bytes 8 value ++ drop 8 old) ended.Completed
register-kept i c new depth value bytes old ek ev en =
    let size = length-bytes_high_first 8 value in
    let some : 8 ≤ length (big_bytes 8 value) = omega (arith, size) in
    let kept : take 8 (big_bytes 8 value ++ drop 8 old) ≡ take 8 (big_bytes 8 (register c i.r1)) =
    take-append-le 8 (big_bytes 8 value) (drop 8 old) some ∙ ap (λ v. take 8 (big_bytes 8 v)) ev in
    let is = register-outcome i c depth bytes ek in
    record {
      value = (λ j. Did (en j) (kept j)) ∙ sym (ap (trimmed 8) is);
      image = en ∙ sym (ap (cpu_after c) is);
    }

-- it stores a doubleword into its operand
stored-first : (i : Instr) (general : List ℕ) (code : ℕ)
    → first_size (map range_of (spans_in (Stored Doubleword) i general code)) ≡ 8
unfolding spans_in
stored-first i general code = refl

stored-long : (i : Instr) (general : List ℕ) (code : ℕ)
    → (get_or (map range_of (spans_in (Stored Doubleword) i general code)) 0 no_range).length ≡ 8
unfolding spans_in
stored-long i general code = refl

register-operands : (i : Instr) → kind_at i.op.number ≡ kind.Storage (Store Doubleword)
    → (entry_at i.op.number).operands ≡ Stored Doubleword
register-operands i h = operands_at i.op.number i.op.known ∙ ap operands_of h

pub register-first : (i : Instr) (c : Cpu) (need : List Range) → need ≡ operands i c
    → kind_at i.op.number ≡ kind.Storage (Store Doubleword) → first_size need ≡ 8
register-first i c need en h =
    ap first_size en
    ∙ ap (λ (o : Operands). first_size (map range_of (spans_in o i c.general c.condition))) (register-operands i h)
    ∙ stored-first i c.general c.condition

-- which has eight bytes
pub register-long : (i : Instr) (c : Cpu) (need : List Range) → need ≡ operands i c
    → kind_at i.op.number ≡ kind.Storage (Store Doubleword) → (get_or need 0 no_range).length ≡ 8
register-long i c need en h =
    ap (λ (rs : List Range). (get_or rs 0 no_range).length) en
    ∙ ap (λ (o : Operands). (get_or (map range_of (spans_in o i c.general c.condition)) 0 no_range).length)
    (register-operands i h)
    ∙ stored-long i c.general c.condition

-- it is what the first operand stores
pub register-apart : (i : Instr) (c new : Cpu) (depth : ℕ) (bytes stored : List ℕ) (need : List Range) (e : Ended)
    → need ≡ operands i c → kind_at i.op.number ≡ kind.Storage (Store Doubleword)
    → IsKeptApart (one i c depth bytes) 8 c new stored e
    → outcome_from e new (take (first_size need) stored) ≡ trimmed (first_size need) (one i c depth bytes)
register-apart i c new depth bytes stored need e en ek apart =
    subst (λ n. outcome_from e new (take n stored) ≡ trimmed n (one i c depth bytes))
    (sym (register-first i c need en ek)) apart.value
