-- What the bytes of an instruction say of its row.
use Rattle.std.proofs.Common.{◌≡◌, ℕ, ◌<◌, ◌%◌, ◌^◌, true, refl, List, length, get_or, ap, sym, subst, ◌∙◌, eq-eqb, lit<}
use Rattle.std.proofs.Math.Nat.{mod-eq_of_lt}
use Rattle.z_instr.specs.declared.instr.Instr.{Instr}
use Rattle.z_instr.specs.Table.{entry_at}
use Rattle.z_instr.specs.Layout.{form_length, length_by}
use Rattle.z_instr.specs.Layouts.{layout_of, width, taken}
use Rattle.z_instr.specs.Made.{fields_of}
use Rattle.z_instr.specs.Places.{HasOpcode, is_spare_zero}
use Rattle.z_instr.specs.Reading.{Reads, number_of, spelling}
use Rattle.z_instr.proofs.TableFacts.{opcode_room}
use Rattle.z_instr.proofs.Wholes.{whole, room_at, length_spelled, place_holds, ranks, taken_whole}
use Rattle.z_instr.proofs.Digits.{power_above}
use Rattle.z_instr.proofs.Bytes.{reads_bytes}
use Rattle.z_instr.proofs.Distinct.{opcode_gives_length}

-- what the digits of an instruction's bytes hold of a field
taken_of : (i : Instr) (r : ℕ) → r < 12 → get_or ranks r 0 ≡ r →
    taken (layout_of (entry_at i.op.number)) (spelling (entry_at i.op.number) i) r
    ≡ number_of (entry_at i.op.number).opcode (fields_of i) r % 16 ^ width (layout_of (entry_at i.op.number)) r
taken_of i r =
    taken_whole (layout_of (entry_at i.op.number)) (number_of (entry_at i.op.number).opcode (fields_of i)) r
    (whole i.op.number i.op.known)

-- bytes that read as an instruction have its opcode, its length, and zeros where no field stands
pub reads_opcode : (bytes : List ℕ) (i : Instr) → Reads bytes i → HasOpcode (entry_at i.op.number) bytes
reads_opcode bytes i r =
    let e = entry_at i.op.number in
    let room : e.opcode < 16 ^ width (layout_of e) 0 =
    subst (λ n. e.opcode < n) (room_at i.op.number i.op.known) (opcode_room i.op.number i.op.known) in
    place_holds e.form bytes
    ∙ ap (λ s. taken (layout_of e) s 0) r ∙ taken_of i 0 (lit< tt) refl ∙ mod-eq_of_lt room

pub reads_length : (bytes : List ℕ) (i : Instr) → Reads bytes i →
    length bytes ≡ form_length (entry_at i.op.number).form
reads_length bytes i r =
    let e = entry_at i.op.number in
    ap length r ∙ length_spelled e.form (number_of e.opcode (fields_of i))

pub reads_spare : (bytes : List ℕ) (i : Instr) → Reads bytes i →
    is_spare_zero (entry_at i.op.number) bytes ≡ true
reads_spare bytes i r =
    let e = entry_at i.op.number in
    let zeros : taken (layout_of e) bytes 11 ≡ 0 % 16 ^ width (layout_of e) 11 =
    ap (λ s. taken (layout_of e) s 11) r ∙ taken_of i 11 (lit< tt) refl in
    eq-eqb _ _ (zeros ∙ none (width (layout_of e) 11))
  where
    none : (n : ℕ) → 0 % 16 ^ n ≡ 0
    none n = mod-eq_of_lt (power_above n)

pub read_size : (bytes : List ℕ) (i : Instr) → Reads bytes i → length bytes ≡ length_by (get_or bytes 0 0)
read_size bytes i r = reads_length bytes i r ∙ sym
    (opcode_gives_length i.op.number bytes i.op.known (reads_bytes bytes i r) (reads_opcode bytes i r))
