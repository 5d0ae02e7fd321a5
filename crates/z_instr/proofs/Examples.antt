-- Worked values of the definitions that no code of this crate computes.
use Rattle.std.proofs.Common.{◌≡◌, refl, true, false, [], ◌∷◌, lit<}
use Rattle.std.specs.Prelude.{pos, negsuc, Some, None, codes}
use Rattle.z_instr.specs.declared.instr.Instr.{Instr}
use Rattle.z_instr.specs.Table.{entry_at, table}
use Rattle.z_instr.proofs.Named.{number_of}
use Rattle.z_instr.specs.Reading.{Reads}
use Rattle.z_instr.specs.Operands.{span, spans, spans_in, pieces, selects, registers_between, address, unspecified, unspecified_in, inaccessible, inaccessible_in, special_operation, specification, addressing, protection}

-- a mask's leftmost bit selects condition code 0, its rightmost 3
zero_selected : selects 8 0 ≡ true
zero_selected = refl

three_selected : selects 1 3 ≡ true
three_selected = refl

two_not_selected : selects 13 2 ≡ false
two_not_selected = refl

-- from register 14 over 15 and 0 up to 1
four_registers : registers_between 14 1 ≡ 4
four_registers = refl

one_register : registers_between 5 5 ≡ 1
one_register = refl

all_registers : registers_between 3 2 ≡ 16
all_registers = refl

-- register 0 adds nothing, and addresses wrap
below_zero : address (5 ∷ 7 ∷ []) 0 0 (negsuc 0) ≡ 18446744073709551615
below_zero = refl

with_index : address (5 ∷ 7 ∷ []) 1 1 (pos 2) ≡ 16
with_index = refl

wrapped : address (5 ∷ 18446744073709551615 ∷ []) 0 1 (pos 3) ≡ 2
wrapped = refl

-- two bytes on both sides of a page's end, and one on one side
two_pages : pieces 4096 (span 8191 2 true) ≡ 1 ∷ 2 ∷ []
two_pages = refl

one_page : pieces 4096 (span 8191 1 true) ≡ 1 ∷ []
one_page = refl

-- past the last address there is nothing accessible
past_the_end : pieces 4096 (span 18446744073709551615 2 false) ≡ 4503599627370495 ∷ 4503599627370496 ∷ []
past_the_end = refl

-- ---- whole instructions

-- MVC 4(3,1),8(2): three bytes
move_three : Instr
unfolding number_of entry_at table
move_three =
    record {
      op = record { number = number_of (codes "MVC"); known = lit< tt };
      r1 = 0;
      r2 = 0;
      r3 = 0;
      x = 0;
      b = 1;
      d = pos 4;
      b2 = 2;
      d2 = pos 8;
      imm = pos 2;
      mask = 0;
      r1_in = lit< tt;
      r2_in = lit< tt;
      r3_in = lit< tt;
      x_in = lit< tt;
      b_in = lit< tt;
      b2_in = lit< tt;
      mask_in = lit< tt;
      shaped = refl;
    }

move_spelled : Reads (0xD2 ∷ 0x02 ∷ 0x10 ∷ 0x04 ∷ 0x20 ∷ 0x08 ∷ []) move_three
unfolding move_three number_of entry_at table
move_spelled = refl

move_spans : spans move_three (0 ∷ 8192 ∷ 16384 ∷ []) 0 ≡ span 8196 3 true ∷ span 16392 3 false ∷ []
unfolding move_three number_of entry_at table spans_in
move_spans = refl

-- the text page 2 is stored into, an operand that is not accessible comes first
move_protected : inaccessible move_three (0 ∷ 8192 ∷ 16384 ∷ []) 0 0 (2 ∷ 3 ∷ 4 ∷ []) (2 ∷ []) ≡
    Some protection
unfolding move_three number_of entry_at table spans_in inaccessible_in
move_protected = refl

move_absent : inaccessible move_three (0 ∷ 8192 ∷ 16384 ∷ []) 0 0 (2 ∷ 3 ∷ []) (2 ∷ []) ≡ Some addressing
unfolding move_three number_of entry_at table spans_in inaccessible_in
move_absent = refl

move_allowed : inaccessible move_three (0 ∷ 8192 ∷ 16384 ∷ []) 0 0 (2 ∷ 4 ∷ []) (4 ∷ []) ≡ None
unfolding move_three number_of entry_at table spans_in inaccessible_in
move_allowed = refl

-- TABORT 255: special operation outside a transaction, specification inside
abort_code : Instr
unfolding number_of entry_at table
abort_code =
    record {
      op = record { number = number_of (codes "TABORT"); known = lit< tt };
      r1 = 0;
      r2 = 0;
      r3 = 0;
      x = 0;
      b = 0;
      d = pos 255;
      b2 = 0;
      d2 = pos 0;
      imm = pos 0;
      mask = 0;
      r1_in = lit< tt;
      r2_in = lit< tt;
      r3_in = lit< tt;
      x_in = lit< tt;
      b_in = lit< tt;
      b2_in = lit< tt;
      mask_in = lit< tt;
      shaped = refl;
    }

abort_outside : unspecified abort_code [] 0 ≡ Some special_operation
unfolding abort_code number_of entry_at table unspecified_in
abort_outside = refl

abort_inside : unspecified abort_code [] 1 ≡ Some specification
unfolding abort_code number_of entry_at table unspecified_in
abort_inside = refl

-- TBEGIN 0(1),X'FF00': the outermost block is tested, an inner one for its boundary alone
begin_with_block : Instr
unfolding number_of entry_at table
begin_with_block =
    record {
      op = record { number = number_of (codes "TBEGIN"); known = lit< tt };
      r1 = 0;
      r2 = 0;
      r3 = 0;
      x = 0;
      b = 1;
      d = pos 0;
      b2 = 0;
      d2 = pos 0;
      imm = pos 65280;
      mask = 0;
      r1_in = lit< tt;
      r2_in = lit< tt;
      r3_in = lit< tt;
      x_in = lit< tt;
      b_in = lit< tt;
      b2_in = lit< tt;
      mask_in = lit< tt;
      shaped = refl;
    }

block_off_boundary : unspecified begin_with_block (0 ∷ 8196 ∷ []) 3 ≡ Some specification
unfolding begin_with_block number_of entry_at table unspecified_in
block_off_boundary = refl

block_absent : inaccessible begin_with_block (0 ∷ 4096 ∷ []) 0 0 (2 ∷ []) [] ≡ Some addressing
unfolding begin_with_block number_of entry_at table spans_in inaccessible_in
block_absent = refl

inner_block_untested : inaccessible begin_with_block (0 ∷ 4096 ∷ []) 0 1 (2 ∷ []) [] ≡ None
unfolding begin_with_block number_of entry_at table spans_in inaccessible_in
inner_block_untested = refl
