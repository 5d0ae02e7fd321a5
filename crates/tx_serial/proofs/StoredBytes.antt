-- An instruction leaves a byte for each place of its stored operands.
use Rattle.std.proofs.Common.{◌≡◌, ℕ, zero, suc, ◌+◌, ◌-◌, ◌≤◌, Bool, true, false, List, [], ◌∷◌}
use Rattle.std.proofs.Common.{Option, refl, sym, ap, subst, ◌∙◌, arith, length, length-append, lit≤, take}
use Rattle.std.proofs.Common.{drop}
use Rattle.std.specs.Prelude.{cond, map, nat_eq, nat_le, ◌&&◌, if◌then◌else◌}
use Rattle.std.proofs.lemmas.List.{length-map}
use Rattle.byteorder.specs.Numbers.{length-bytes_high_first}
use Rattle.z_arith.specs.Sum.{add_of}
use Rattle.z_arith.specs.Whole.{bits, modulo}
use Rattle.z_regs.specs.Cpu.{Cpu}
use Rattle.z_regs.specs.Prefix.{absolute_of}
use Rattle.z_regs.specs.declared.ranges.Range.{Range}
use Rattle.z_instr.specs.declared.instr.Instr.{Instr}
use Rattle.z_instr.specs.declared.operand.Operands.{Operands}
use Rattle.z_instr.specs.declared.operand.Operands.TheVariants.{Absent}
use Rattle.z_instr.specs.declared.operand.Size.{Size}
use Rattle.z_instr.specs.declared.operand.Size.TheVariants.{Byte, Doubleword}
use Rattle.z_instr.specs.Operands.{spans, spans_in, bytes_of, selects, registers_between, from_up}
use Rattle.z_instr.specs.Operands.{first_address}
use Rattle.z_instr.specs.Operands as operand
use Rattle.z_touch.specs.Refusals.{range_of}
use Rattle.z_instr.specs.declared.kind.Kind.{Kind}
use Rattle.z_instr.specs.declared.kind.Kind.TheVariants as kind
use Rattle.z_instr.specs.declared.kind.Storage.{Storage}
use Rattle.z_instr.specs.declared.kind.Storage.TheVariants as storage
use Rattle.z_instr.specs.declared.kind.Transaction.{Transaction}
use Rattle.z_instr.specs.declared.kind.Transaction.TheVariants as transaction
use Rattle.z_instr.specs.Kinds.{operands_of}
use Rattle.z_instr.specs.Table.{kind_at}
use Rattle.z_effect.specs.Registers.{register, operand_in, advanced, with_condition, with_register}
use Rattle.z_effect.specs.Operations.{combined, logic_of}
use Rattle.z_effect.specs.StorageEffect.{storage_effect, number, stored, lead}
use Rattle.z_instr.specs.Kinds.{item}
use Rattle.z_effect.specs.TransactionEffect.{transaction_effect}
use Rattle.z_effect.specs.Outcome.{Outcome, Did, Overflowed, Divides, Aborts, ended}
use Rattle.z_effect.specs.One.{one, effect, length_of}
use Rattle.z_instr.proofs.TableFacts.{operands_at}
use Rattle.tx_serial.specs.Flat as flat
use Rattle.tx_serial.specs.Flat.{bytes_seen, operand_bytes, laid_over, with_bytes_at}
use Rattle.z_effect.proofs.Lengths.{length-items, length-results}

-- ---- how many bytes

-- those of all operands, and those of the stored ones
abbrev pub touched_size : List Range → ℕ
touched_size [] = 0
touched_size (r ∷ rs) = r.length + touched_size rs

abbrev pub stored_size : List Range → ℕ
stored_size [] = 0
stored_size (r ∷ rs) = cond r.store r.length 0 + stored_size rs

length-from_up : (a n : ℕ) → length (from_up a n) ≡ n
length-from_up a zero = refl
length-from_up a (suc n) = ap suc (length-from_up (suc a) n)

pub length-operand_bytes : (prefix : Option ℕ) (s : flat.Storage) (ranges : List Range)
    → length (operand_bytes prefix s ranges) ≡ touched_size ranges
length-operand_bytes prefix s [] = refl
length-operand_bytes prefix s (r ∷ rs) =
    let first : length (bytes_seen prefix s r.first r.length) ≡ r.length =
    length-map (from_up r.first r.length) (λ a. s (absolute_of prefix a)) ∙ length-from_up r.first r.length in
    let rest = length-operand_bytes prefix s rs in
    let both = length-append (bytes_seen prefix s r.first r.length) (operand_bytes prefix s rs) in
    omega arith

-- ---- an outcome that stores has so many bytes

abbrev pub Fills : ℕ → Outcome → Type 0
Fills n (Did c bytes) = n ≤ length bytes
Fills n (Overflowed c bytes) = n ≤ length bytes
Fills n Divides = Unit {0}
Fills n (Aborts code) = Unit {0}

fills_none : (n : ℕ) (o : Outcome) → n ≡ 0 → Fills n o
fills_none n (Did c bytes) e = omega arith
fills_none n (Overflowed c bytes) e = omega arith
fills_none n Divides e = tt
fills_none n (Aborts code) e = tt

fills_either : (n : ℕ) (b : Bool) (o p : Outcome) → Fills n o → Fills n p → Fills n (if b then o else p)
fills_either n true o p h k = h
fills_either n false o p h k = k

fills_ended : (n : ℕ) (overflow : Bool) (c : Cpu) (bytes : List ℕ) → n ≤ length bytes
    → Fills n (ended overflow c bytes)
fills_ended n overflow c bytes h = fills_either n (overflow && nat_le 8 c.mask) _ _ h h

item_fills : (s : Size) (n : ℕ) → bytes_of s + 0 ≤ length (stored s n)
item_fills s n = let e = length-bytes_high_first (bytes_of s) n in omega (arith, e)

selected_fills : (b : Bool) (a n : ℕ)
    → stored_size (map range_of (cond b (operand.span a 8 true ∷ []) []))
    ≤ length (if b then stored Doubleword n else [])
selected_fills true a n = item_fills Doubleword n
selected_fills false a n = lit≤ tt

-- how many bytes the operands of a kind have
abbrev wanted : Kind → Instr → Cpu → ℕ
wanted k i c = stored_size (map range_of (spans_in (operands_of k) i c.general c.condition))

abbrev given : Kind → Instr → Cpu → ℕ
given k i c = touched_size (map range_of (spans_in (operands_of k) i c.general c.condition))

storage_fills : (k : Storage) (n : ℕ) (i : Instr) (c : Cpu) (bytes : List ℕ)
    → length bytes ≡ given (kind.Storage k) i c
    → Fills (wanted (kind.Storage k) i c) (storage_effect k n i c bytes)
unfolding spans_in storage_effect
storage_fills (storage.Compute o w p) n i c bytes h =
    fills_none 0 (storage_effect (storage.Compute o w p) n i c bytes) refl
storage_fills (storage.Compare o w p) n i c bytes h =
    fills_none 0 (storage_effect (storage.Compare o w p) n i c bytes) refl
storage_fills (storage.CompareImmediate o w p) n i c bytes h =
    fills_none 0 (storage_effect (storage.CompareImmediate o w p) n i c bytes) refl
storage_fills storage.TestUnderMask n i c bytes h =
    fills_none 0 (storage_effect storage.TestUnderMask n i c bytes) refl
storage_fills storage.InsertByte n i c bytes h =
    fills_none 0 (storage_effect storage.InsertByte n i c bytes) refl
storage_fills (storage.Store s) n i c bytes h = item_fills s (register c i.r1)
storage_fills (storage.StoreImmediate s) n i c bytes h = item_fills s (modulo 64 i.imm)
storage_fills (storage.ByteLogic l) n i c bytes h =
    item_fills Byte (logic_of l (number Byte bytes) (modulo 8 i.imm))
storage_fills (storage.AddImmediate w) n i c bytes h =
    let a = add_of w (number (item w) bytes) (modulo (bits w) i.imm) in
    fills_ended (wanted (kind.Storage (storage.AddImmediate w)) i c) a.overflow
    (advanced n (with_condition a.condition c)) (stored (item w) a.value) (item_fills (item w) a.value)
storage_fills (storage.LoadMany w) n i c bytes h =
    fills_none 0 (storage_effect (storage.LoadMany w) n i c bytes) refl
storage_fills (storage.StoreMany w) n i c bytes h =
    let e = length-items (registers_between i.r1 i.r3) w i.r1 c in omega (arith, e)
storage_fills (storage.CompareAndSwap w) n i c bytes h =
    fills_either _ (nat_eq (operand_in w c i.r1) (number (item w) bytes)) _ _ (item_fills (item w) (register
    c i.r3))
    (omega (arith, h))
storage_fills (storage.LoadAnd o w) n i c bytes h =
    let old = number (item w) bytes in
    let a = combined o w c.condition old (operand_in w c i.r3) in
    fills_ended (wanted (kind.Storage (storage.LoadAnd o w)) i c) a.overflow
    (advanced n (with_condition a.condition (with_register w i.r1 old c))) (stored (item w) a.value)
    (item_fills (item w) a.value)
storage_fills storage.LoadSelected n i c bytes h =
    fills_none (wanted (kind.Storage storage.LoadSelected) i c) (storage_effect storage.LoadSelected n i c
    bytes)
    (none_selected (selects i.mask c.condition) i c)
  where
    none_selected : (b : Bool) (i : Instr) (c : Cpu)
        → stored_size (map range_of (cond b (operand.span (first_address i c.general) 8 false ∷ []) [])) ≡ 0
    none_selected true i c = refl
    none_selected false i c = refl
storage_fills storage.StoreSelected n i c bytes h =
    selected_fills (selects i.mask c.condition) (first_address i c.general) (register c i.r1)
storage_fills (storage.ByteByByte m) n i c bytes h =
    let e = length-results (operand.length_of i) m
    (lead (operand.length_of i) (first_address i c.general) (operand.second_address i c.general))
    (take (operand.length_of i) bytes) (drop (operand.length_of i) bytes) in omega (arith, e)
storage_fills storage.CompareBytes n i c bytes h =
    fills_none 0 (storage_effect storage.CompareBytes n i c bytes) refl

transaction_fills : (k : Transaction) (n : ℕ) (i : Instr) (c : Cpu) (depth : ℕ)
    → Fills (wanted (kind.Transaction k) i c) (transaction_effect k n i c depth)
unfolding spans_in transaction_effect
transaction_fills transaction.Begin n i c depth =
    fills_none 0 (transaction_effect transaction.Begin n i c depth) refl
transaction_fills transaction.BeginConstrained n i c depth =
    fills_none 0 (transaction_effect transaction.BeginConstrained n i c depth) refl
transaction_fills transaction.End n i c depth =
    fills_none 0 (transaction_effect transaction.End n i c depth) refl
transaction_fills transaction.Abort n i c depth = tt
transaction_fills transaction.ExtractDepth n i c depth =
    fills_none 0 (transaction_effect transaction.ExtractDepth n i c depth) refl
transaction_fills transaction.StoreLasting n i c depth = item_fills Doubleword (register c i.r1)
transaction_fills transaction.Assist n i c depth =
    fills_none 0 (transaction_effect transaction.Assist n i c depth) refl

none_wanted : (i : Instr) (c : Cpu)
    → stored_size (map range_of (spans_in Absent i c.general c.condition)) ≡ 0
unfolding spans_in
none_wanted i c = refl

effect_fills : (k : Kind) (n : ℕ) (i : Instr) (c : Cpu) (depth : ℕ) (bytes : List ℕ)
    → length bytes ≡ given k i c → Fills (wanted k i c) (effect k n i c depth bytes)
effect_fills (kind.General g) n i c depth bytes h =
    fills_none (wanted (kind.General g) i c) (effect (kind.General g) n i c depth bytes) (none_wanted i c)
effect_fills (kind.Storage s) n i c depth bytes h = storage_fills s n i c bytes h
effect_fills (kind.Branch b) n i c depth bytes h =
    fills_none (wanted (kind.Branch b) i c) (effect (kind.Branch b) n i c depth bytes) (none_wanted i c)
effect_fills (kind.Transaction t) n i c depth bytes h = transaction_fills t n i c depth

-- of an instruction, by the bytes of its operands
pub one_fills : (i : Instr) (c : Cpu) (depth : ℕ) (bytes : List ℕ)
    → length bytes ≡ touched_size (map range_of (spans i c.general c.condition))
    → Fills (stored_size (map range_of (spans i c.general c.condition))) (one i c depth bytes)
one_fills i c depth bytes h =
    let same = operands_at i.op.number i.op.known in
    subst (λ (o : Operands). Fills (stored_size (map range_of (spans_in o i c.general c.condition)))
    (one i c depth bytes)) (sym same)
    (effect_fills (kind_at i.op.number) (length_of i) i c depth bytes
    (subst (λ (o : Operands). length bytes ≡ touched_size (map range_of (spans_in o i c.general
    c.condition))) same h))

pub with_none : (prefix : Option ℕ) (a : ℕ) (s : flat.Storage) → with_bytes_at prefix a [] s ≡ s
unfolding laid_over
with_none prefix a s = refl
