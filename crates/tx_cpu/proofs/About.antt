-- Instructions about transactions, of which the table knows what they do.
use Rattle.std.proofs.Common.{◌≡◌, ℕ, ◌≤◌, true, false, List, [], refl, sym, ap, ◌∙◌, arith, get_or, length}
use Rattle.std.specs.Prelude.{map}
use Rattle.z_regs.specs.Cpu.{Cpu}
use Rattle.z_regs.specs.declared.ranges.Range.{Range}
use Rattle.z_instr.specs.declared.instr.Instr.{Instr}
use Rattle.z_instr.specs.declared.kind.Kind.{Kind}
use Rattle.z_instr.specs.declared.kind.Kind.TheVariants as kind
use Rattle.z_instr.specs.declared.kind.Transaction.{Transaction}
use Rattle.z_instr.specs.declared.kind.Transaction.TheVariants as transaction
use Rattle.z_instr.specs.declared.operand.Operands.{Operands}
use Rattle.z_instr.specs.Kinds.{operands_of}
use Rattle.z_instr.specs.Operands.{spans_in}
use Rattle.z_instr.specs.Roles.{is_end, stores_lastingly, ends_level, is_lasting_store}
use Rattle.z_instr.specs.Table.{entry_at, kind_at}
use Rattle.z_instr.proofs.TableFacts.{operands_at}
use Rattle.z_touch.specs.Refusals.{range_of}
use Rattle.z_effect.specs.One.{effect, length_of}
use Rattle.z_effect.specs.TransactionEffect.{transaction_effect}
use Rattle.z_effect.specs.Outcome.{Outcome}
use Rattle.tx_serial.specs.Fate.{operands}
use Rattle.tx_serial.specs.Flat.{Storage, operand_bytes}
use Rattle.tx_progress.specs.Progress.{Progress, seen_through}
use Rattle.tx_progress.specs.Trial.{outcome_by}
use Rattle.tx_attempt.specs.declared.performing.Ended.{Ended}
use Rattle.tx_attempt.specs.declared.performing.Ended.TheVariants as ended
use Rattle.tx_attempt.specs.Performed.{outcome_from, trimmed, ended_of, lasting_size, no_range}
use Rattle.tx_attempt.proofs.Laying.{ended-so}

-- ---- the roles of TEND and of NTSTG

pub ends-level : (n : ℕ) → kind_at n ≡ kind.Transaction transaction.End → is_end (entry_at n) ≡ true
unfolding kind_at
ends-level n h = ap ends_level h

pub ends-none : (n : ℕ) → kind_at n ≡ kind.Transaction transaction.StoreLasting → is_end (entry_at n) ≡ false
unfolding kind_at
ends-none n h = ap ends_level h

pub stores-lastingly : (n : ℕ) → kind_at n ≡ kind.Transaction transaction.StoreLasting
    → stores_lastingly (entry_at n) ≡ true
unfolding kind_at
stores-lastingly n h = ap is_lasting_store h

-- ---- the bytes of their operand

operand-size : (t : Transaction) (i : Instr) (general : List ℕ) (code : ℕ)
    → (get_or (map range_of (spans_in (operands_of (kind.Transaction t)) i general code)) 0 no_range).length
    ≡ lasting_size t
unfolding spans_in
operand-size transaction.Begin i general code = refl
operand-size transaction.BeginConstrained i general code = refl
operand-size transaction.End i general code = refl
operand-size transaction.Abort i general code = refl
operand-size transaction.ExtractDepth i general code = refl
operand-size transaction.StoreLasting i general code = refl
operand-size transaction.Assist i general code = refl

pub size-known : (i : Instr) (c : Cpu) (t : Transaction) (need : List Range) → need ≡ operands i c
    → kind_at i.op.number ≡ kind.Transaction t → (get_or need 0 no_range).length ≡ lasting_size t
size-known i c t need en ek =
    let rows : (entry_at i.op.number).operands ≡ operands_of (kind.Transaction t) =
    operands_at i.op.number i.op.known ∙ ap operands_of ek in
    ap (λ (rs : List Range). (get_or rs 0 no_range).length) en
    ∙ ap (λ (o : Operands). (get_or (map range_of (spans_in o i c.general c.condition)) 0 no_range).length) rows
    ∙ operand-size t i c.general c.condition

few-bytes : (t : Transaction) → lasting_size t ≤ 8
few-bytes transaction.Begin = omega arith
few-bytes transaction.BeginConstrained = omega arith
few-bytes transaction.End = omega arith
few-bytes transaction.Abort = omega arith
few-bytes transaction.ExtractDepth = omega arith
few-bytes transaction.StoreLasting = omega arith
few-bytes transaction.Assist = omega arith

pub size-small : (i : Instr) (c : Cpu) (t : Transaction) (need : List Range) → need ≡ operands i c
    → kind_at i.op.number ≡ kind.Transaction t → (get_or need 0 no_range).length ≤ 8
size-small i c t need en ek =
    let known = size-known i c t need en ek in
    let few = few-bytes t in
    omega (arith, known, few)

-- ---- both are completed

-- what an instruction of some kind does in an attempt
abbrev done_by : Kind → Storage → Instr → List Range → Progress → Outcome
done_by k s i need q =
    effect k (length_of i) i q.cpu (length q.nest) (operand_bytes q.cpu.prefix (seen_through q.overlay s) need)

pub end-completes : (s : Storage) (i : Instr) (need : List Range) (q : Progress)
    → kind_at i.op.number ≡ kind.Transaction transaction.End → ended_of (outcome_by s i need q) ≡ ended.Completed
unfolding transaction_effect kind_at
end-completes s i need q h = ap (λ (k : Kind). ended_of (done_by k s i need q)) h

pub lasting-completes : (s : Storage) (i : Instr) (need : List Range) (q : Progress)
    → kind_at i.op.number ≡ kind.Transaction transaction.StoreLasting
    → ended_of (outcome_by s i need q) ≡ ended.Completed
unfolding transaction_effect kind_at
lasting-completes s i need q h = ap (λ (k : Kind). ended_of (done_by k s i need q)) h

-- and leave what was kept apart
pub completed-with : (e : Ended) (image : Cpu) (xs : List ℕ) (n : ℕ) (o : Outcome) → ended_of o ≡ ended.Completed
    → outcome_from e image xs ≡ trimmed n o → outcome_from ended.Completed image xs ≡ trimmed n o
completed-with e image xs n o done h =
    let same : e ≡ ended.Completed = ended-so e image xs n o h ∙ done in
    sym (ap (λ (x : Ended). outcome_from x image xs) same) ∙ h
