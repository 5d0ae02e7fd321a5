-- What is spelled is a list of bytes.
use Rattle.std.proofs.Common.{ℕ, List, sym, subst, map}
use Rattle.z_instr.specs.declared.instr.Instr.{Instr}
use Rattle.z_instr.specs.Table.{entry_at}
use Rattle.z_instr.specs.Layouts.{layout_of, digit}
use Rattle.z_instr.specs.Made.{fields_of}
use Rattle.z_instr.specs.Reading.{AreBytes, Reads, number_of}
use Rattle.z_instr.proofs.Digits.{are_digits, paired_bytes}

pub reads_bytes : (bytes : List ℕ) (i : Instr) → Reads bytes i → AreBytes bytes
reads_bytes bytes i r =
    let e = entry_at i.op.number in
    let value = number_of e.opcode (fields_of i) in
    subst AreBytes (sym r) (paired_bytes (map (digit value) (layout_of e)) (are_digits (layout_of e) value))
