-- The computed reading is the reading.
use Rattle.std.proofs.Common.{◌≡◌, ℕ, ◌<◌, ◌↔◌, true, false, Bool, T, List, length, refl, subst}
use Rattle.std.proofs.Common.{ap, ◌∙◌, arith, eqb-true, eq-eqb, lt-ltb}
use Rattle.std.specs.Prelude.{Option, Some, None, if◌then◌else◌}
use Rattle.std.specs.Str.{bytes_eq}
use Rattle.std.proofs.lemmas.Bool.{false_from_ne_true}
use Rattle.std.proofs.lemmas.Cmp.{nat_list_eq_equiv}
use Rattle.std.proofs.lemmas.List.Sums.{position_or_len_is}
use Rattle.std.proofs.lemmas.Slice.Eq.{bytes_eq-Decides}
use Rattle.z_instr.specs.declared.instr.Instr.{Instr}
use Rattle.z_instr.specs.declared.table.TheConstants.{ROWS}
use Rattle.z_instr.specs.Table.{Entry, table, entry_at, no_entry}
use Rattle.z_instr.specs.Places.{HasOpcode}
use Rattle.z_instr.specs.Reading.{Reads, spelling}
use Rattle.z_instr.specs.Computing.{row_number, has_opcode_of, fields_in, where_holds, instruction_of}
use Rattle.z_instr.specs.Computing.{only_if_spelled, reading_in, reading_of}
use Rattle.z_instr.proofs.TableFacts.{same_table}
use Rattle.z_instr.proofs.Within.{instr_fits}
use Rattle.z_instr.proofs.Distinct.{one_row}
use Rattle.z_instr.proofs.Spelled.{reads_opcode}
use Rattle.z_instr.proofs.Bytes.{reads_bytes}
use Rattle.z_instr.specs.Layouts.{layout_of, has_signed_immediate}
use Rattle.z_instr.specs.Made.{fields_of}
use Rattle.z_instr.proofs.SameInstr.{from_fields}
use Rattle.z_instr.proofs.TakenApart.{taken_apart}

-- ---- the row is the instruction's

pub rows : (n : ℕ) → n < ROWS → n < length table
rows n h = subst (λ (t : List Entry). n < length t) same_table h

never_before : (bytes : List ℕ) (i : Instr) → Reads bytes i → (k : ℕ) → k < i.op.number →
    HasOpcode (entry_at k) bytes → ⊥
never_before bytes i r k h o =
    let n = i.op.number in
    let below : n < ROWS = i.op.known in
    let all_bytes = reads_bytes bytes i r in
    let same : k ≡ n = one_row k n bytes (omega arith) below all_bytes o (reads_opcode bytes i r) in
    omega arith

no_row_before : (bytes : List ℕ) (i : Instr) → Reads bytes i → (k : ℕ) → k < i.op.number →
    has_opcode_of bytes (entry_at k) ≡ false
no_row_before bytes i r k h = false_from_ne_true _ (λ e. never_before bytes i r k h (eqb-true _ _ e))

row_found : (bytes : List ℕ) (i : Instr) → Reads bytes i → row_number bytes ≡ i.op.number
unfolding row_number entry_at
row_found bytes i r =
    let below : i.op.number < length table = rows i.op.number i.op.known in
    let before = no_row_before bytes i r in
    position_or_len_is (has_opcode_of bytes) table i.op.number no_entry (omega arith) before
    (λ l. eq-eqb _ _ (reads_opcode bytes i r))

-- ---- the instruction of its own row and fields is itself

made : (test : Bool) (make : T test → Option Instr) (i : Instr) → test ≡ true →
    ((h : T test) → make h ≡ Some i) → where_holds test make ≡ Some i
made true make i e h = h tt
made false make i e h = absurd (grind arith)

own_instruction : (i : Instr) → instruction_of i.op.number (fields_of i) ≡ Some i
own_instruction i =
    made _ _ i (lt-ltb _ _ i.op.known) (λ known.
    made _ _ i (lt-ltb _ _ i.r1_in) (λ r1_in.
    made _ _ i (lt-ltb _ _ i.r2_in) (λ r2_in.
    made _ _ i (lt-ltb _ _ i.r3_in) (λ r3_in.
    made _ _ i (lt-ltb _ _ i.x_in) (λ x_in.
    made _ _ i (lt-ltb _ _ i.b_in) (λ b_in.
    made _ _ i (lt-ltb _ _ i.b2_in) (λ b2_in.
    made _ _ i (lt-ltb _ _ i.mask_in) (λ mask_in.
    made _ _ i (instr_fits i) (λ shaped. ap Some (from_fields _ i refl refl))))))))))

-- ---- both directions

kept : (bytes : List ℕ) (i : Instr) → Reads bytes i → only_if_spelled bytes (Some i) ≡ Some i
kept bytes i r =
    let e = subst (λ s. bytes_eq bytes s ≡ true) r (nat_list_eq_equiv.refl bytes) in
    ap (λ b. if b then Some i else None) e

own_row : (bytes : List ℕ) (i : Instr) → Reads bytes i → reading_in i.op.number bytes ≡ Some i
own_row bytes i r =
    let e = entry_at i.op.number in
    let apart = fields_in (layout_of e) (has_signed_immediate e) in
    let f : apart bytes ≡ fields_of i = ap apart r ∙ taken_apart i in
    ap (λ g. only_if_spelled bytes (instruction_of i.op.number g)) f
    ∙ ap (only_if_spelled bytes) (own_instruction i)
    ∙ kept bytes i r

pub computes : (bytes : List ℕ) (i : Instr) → Reads bytes i → reading_of bytes ≡ Some i
unfolding reading_of
computes bytes i r = ap (λ n. reading_in n bytes) (row_found bytes i r) ∙ own_row bytes i r

kept_where_true : (test : Bool) (i j : Instr) → (if test then Some j else None) ≡ Some i →
    (test ≡ true) × (j ≡ i)
kept_where_true true i j e = (refl, cc)
kept_where_true false i j e = absurd (cc)

spelled : (bytes : List ℕ) (o : Option Instr) (i : Instr) → only_if_spelled bytes o ≡ Some i → Reads bytes i
spelled bytes None i e = absurd (cc)
spelled bytes (Some j) i e =
    let own = spelling (entry_at j.op.number) j in
    let k = kept_where_true (bytes_eq bytes own) i j e in
    subst (Reads bytes) k.1 ((bytes_eq-Decides bytes own).0 k.0)

pub reads : (bytes : List ℕ) (i : Instr) → reading_of bytes ≡ Some i → Reads bytes i
unfolding reading_of
reads bytes i e = spelled bytes _ i e

pub none : (bytes : List ℕ) → (reading_of bytes ≡ None) ↔ ((i : Instr) → Reads bytes i → ⊥)
none bytes = (λ e i r. never i e (computes bytes i r), λ h. unread (reading_of bytes) refl h)
  where
    never : (i : Instr) → reading_of bytes ≡ None → reading_of bytes ≡ Some i → ⊥
    never i e f = cc

    unread : (o : Option Instr) → reading_of bytes ≡ o → ((i : Instr) → Reads bytes i → ⊥) → o ≡ None
    unread None e h = refl
    unread (Some i) e h = absurd (h i (reads bytes i e))
