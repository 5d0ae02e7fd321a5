-- Worked values of the computed reading: at least one of each format, and bytes that read as no instruction.
use Rattle.std.proofs.Common.{◌≡◌, refl, List, [], ◌∷◌, ℕ, lit<}
use Rattle.std.specs.Prelude.{pos, negsuc, Option, Some, None, codes}
use Rattle.z_instr.specs.declared.instr.Fields.{Fields}
use Rattle.z_instr.specs.declared.instr.Instr.{Instr}
use Rattle.z_instr.specs.Computing.{reading_of, row_number}
use Rattle.z_instr.specs.Made.{no_fields}
use Rattle.z_instr.specs.Table.{entry_at, table}
use Rattle.z_instr.proofs.Named.{number_of}
use Rattle.z_instr.specs.Made.{fields_of}

-- the name and the fields of an instruction
abbrev shown : Option Instr → Option (List ℕ × Fields)
shown None = None
shown (Some i) = Some ((entry_at i.op.number).name, fields_of i)

abbrev reads_as : List ℕ → Option (List ℕ × Fields)
reads_as bytes = shown (reading_of bytes)

-- LGHI 1,5
load_immediate : reads_as (0xA7 ∷ 0x19 ∷ 0x00 ∷ 0x05 ∷ []) ≡
    Some (codes "LGHI", record no_fields { r1 = 1; imm = pos 5 })
unfolding reading_of row_number entry_at table
load_immediate = refl

-- LGHI 1,-5
negative_immediate : reads_as (0xA7 ∷ 0x19 ∷ 0xFF ∷ 0xFB ∷ []) ≡
    Some (codes "LGHI", record no_fields { r1 = 1; imm = negsuc 4 })
unfolding reading_of row_number entry_at table
negative_immediate = refl

-- LLILF 1,X'FFFFFFFF'
largest_without_sign : reads_as (0xC0 ∷ 0x1F ∷ 0xFF ∷ 0xFF ∷ 0xFF ∷ 0xFF ∷ []) ≡
    Some (codes "LLILF", record no_fields { r1 = 1; imm = pos 4294967295 })
unfolding reading_of row_number entry_at table
largest_without_sign = refl

-- AGR 1,2
two_registers : reads_as (0xB9 ∷ 0x08 ∷ 0x00 ∷ 0x12 ∷ []) ≡
    Some (codes "AGR", record no_fields { r1 = 1; r2 = 2 })
unfolding reading_of row_number entry_at table
two_registers = refl

-- AGRK 1,2,3
three_registers : reads_as (0xB9 ∷ 0xE8 ∷ 0x30 ∷ 0x12 ∷ []) ≡
    Some (codes "AGRK", record no_fields { r1 = 1; r2 = 2; r3 = 3 })
unfolding reading_of row_number entry_at table
three_registers = refl

-- LOCGR 1,2,10
register_and_mask : reads_as (0xB9 ∷ 0xE2 ∷ 0xA0 ∷ 0x12 ∷ []) ≡
    Some (codes "LOCGR", record no_fields { r1 = 1; r2 = 2; mask = 10 })
unfolding reading_of row_number entry_at table
register_and_mask = refl

-- BCR 6,0
mask_alone : reads_as (0x07 ∷ 0x60 ∷ []) ≡
    Some (codes "BCR", record no_fields { mask = 6 })
unfolding reading_of row_number entry_at table
mask_alone = refl

-- BRC 15,*+6
mask_and_distance : reads_as (0xA7 ∷ 0xF4 ∷ 0x00 ∷ 0x03 ∷ []) ≡
    Some (codes "BRC", record no_fields { imm = pos 3; mask = 15 })
unfolding reading_of row_number entry_at table
mask_and_distance = refl

-- BRCL 15,*-4
mask_and_back : reads_as (0xC0 ∷ 0xF4 ∷ 0xFF ∷ 0xFF ∷ 0xFF ∷ 0xFE ∷ []) ≡
    Some (codes "BRCL", record no_fields { imm = negsuc 1; mask = 15 })
unfolding reading_of row_number entry_at table
mask_and_back = refl

-- SVC 5
service : reads_as (0x0A ∷ 0x05 ∷ []) ≡
    Some (codes "SVC", record no_fields { imm = pos 5 })
unfolding reading_of row_number entry_at table
service = refl

-- L 1,12(2,3)
indexed : reads_as (0x58 ∷ 0x12 ∷ 0x30 ∷ 0x0C ∷ []) ≡
    Some (codes "L", record no_fields { r1 = 1; x = 2; b = 3; d = pos 12 })
unfolding reading_of row_number entry_at table
indexed = refl

-- STG 1,36864
long_displacement : reads_as (0xE3 ∷ 0x10 ∷ 0x00 ∷ 0x00 ∷ 0x09 ∷ 0x24 ∷ []) ≡
    Some (codes "STG", record no_fields { r1 = 1; d = pos 36864 })
unfolding reading_of row_number entry_at table
long_displacement = refl

-- STG 1,-483327(2)
negative_displacement : reads_as (0xE3 ∷ 0x10 ∷ 0x20 ∷ 0x01 ∷ 0x8A ∷ 0x24 ∷ []) ≡
    Some (codes "STG", record no_fields { r1 = 1; b = 2; d = negsuc 483326 })
unfolding reading_of row_number entry_at table
negative_displacement = refl

-- SLL 1,63
shift : reads_as (0x89 ∷ 0x10 ∷ 0x00 ∷ 0x3F ∷ []) ≡
    Some (codes "SLL", record no_fields { r1 = 1; d = pos 63 })
unfolding reading_of row_number entry_at table
shift = refl

-- CSG 1,3,-4088
third_register : reads_as (0xEB ∷ 0x13 ∷ 0x00 ∷ 0x08 ∷ 0xFF ∷ 0x30 ∷ []) ≡
    Some (codes "CSG", record no_fields { r1 = 1; r3 = 3; d = negsuc 4087 })
unfolding reading_of row_number entry_at table
third_register = refl

-- LOCG 14,-8176(13),8
mask_for_third : reads_as (0xEB ∷ 0xE8 ∷ 0xD0 ∷ 0x10 ∷ 0xFE ∷ 0xE2 ∷ []) ≡
    Some (codes "LOCG", record no_fields { r1 = 14; b = 13; d = negsuc 8175; mask = 8 })
unfolding reading_of row_number entry_at table
mask_for_third = refl

-- MVI 4(1),255
byte_immediate : reads_as (0x92 ∷ 0xFF ∷ 0x10 ∷ 0x04 ∷ []) ≡
    Some (codes "MVI", record no_fields { b = 1; d = pos 4; imm = pos 255 })
unfolding reading_of row_number entry_at table
byte_immediate = refl

-- ASI 4100(3),-1
added_to_storage : reads_as (0xEB ∷ 0xFF ∷ 0x30 ∷ 0x04 ∷ 0x01 ∷ 0x6A ∷ []) ≡
    Some (codes "ASI", record no_fields { b = 3; d = pos 4100; imm = negsuc 0 })
unfolding reading_of row_number entry_at table
added_to_storage = refl

-- TBEGIN 10(1),X'FF00'
begin : reads_as (0xE5 ∷ 0x60 ∷ 0x10 ∷ 0x0A ∷ 0xFF ∷ 0x00 ∷ []) ≡
    Some (codes "TBEGIN", record no_fields { b = 1; d = pos 10; imm = pos 65280 })
unfolding reading_of row_number entry_at table
begin = refl

-- TEND
end : reads_as (0xB2 ∷ 0xF8 ∷ 0x00 ∷ 0x00 ∷ []) ≡
    Some (codes "TEND", no_fields)
unfolding reading_of row_number entry_at table
end = refl

-- TABORT 256
abort : reads_as (0xB2 ∷ 0xFC ∷ 0x01 ∷ 0x00 ∷ []) ≡
    Some (codes "TABORT", record no_fields { d = pos 256 })
unfolding reading_of row_number entry_at table
abort = refl

-- MVC 0(8,1),12(2)
moved : reads_as (0xD2 ∷ 0x07 ∷ 0x10 ∷ 0x00 ∷ 0x20 ∷ 0x0C ∷ []) ≡
    Some (codes "MVC", record no_fields { b = 1; b2 = 2; d2 = pos 12; imm = pos 7 })
unfolding reading_of row_number entry_at table
moved = refl

-- CGRJ 1,2,8,*-32
compared_registers : reads_as (0xEC ∷ 0x12 ∷ 0xFF ∷ 0xF0 ∷ 0x80 ∷ 0x64 ∷ []) ≡
    Some (codes "CGRJ", record no_fields { r1 = 1; r2 = 2; imm = negsuc 15; mask = 8 })
unfolding reading_of row_number entry_at table
compared_registers = refl

-- CGIJ 1,-1,8,*+20
compared_byte : reads_as (0xEC ∷ 0x18 ∷ 0x00 ∷ 0x0A ∷ 0xFF ∷ 0x7C ∷ []) ≡
    Some (codes "CGIJ", record no_fields { r1 = 1; d2 = negsuc 0; imm = pos 10; mask = 8 })
unfolding reading_of row_number entry_at table
compared_byte = refl

-- no such opcode
zeros : reading_of (0x00 ∷ 0x00 ∷ []) ≡ None
unfolding reading_of row_number entry_at table
zeros = refl

-- no such opcode
ones : reading_of (0xFF ∷ 0xFF ∷ 0xFF ∷ 0xFF ∷ 0xFF ∷ 0xFF ∷ []) ≡ None
unfolding reading_of row_number entry_at table
ones = refl

-- AGR with a one among the bits that no field uses
spare_byte : reading_of (0xB9 ∷ 0x08 ∷ 0x01 ∷ 0x12 ∷ []) ≡ None
unfolding reading_of row_number entry_at table
spare_byte = refl

-- SLL with a register in the place that shifts leave out
third_of_a_shift : reading_of (0x89 ∷ 0x13 ∷ 0x00 ∷ 0x3F ∷ []) ≡ None
unfolding reading_of row_number entry_at table
third_of_a_shift = refl

-- TEND with an operand
operand_of_an_end : reading_of (0xB2 ∷ 0xF8 ∷ 0x00 ∷ 0x01 ∷ []) ≡ None
unfolding reading_of row_number entry_at table
operand_of_an_end = refl

-- half of LR
too_short : reading_of (0x18 ∷ []) ≡ None
unfolding reading_of row_number entry_at table
too_short = refl

-- LR with another byte behind it
too_long : reading_of (0x18 ∷ 0x12 ∷ 0x00 ∷ []) ≡ None
unfolding reading_of row_number entry_at table
too_long = refl

-- no bytes
empty : reading_of ([]) ≡ None
unfolding reading_of row_number entry_at table
empty = refl

-- a whole instruction: LGHI 1,5
load_five : Instr
unfolding number_of entry_at table
load_five =
    record {
      op = record { number = number_of (codes "LGHI"); known = lit< tt };
      r1 = 1;
      r2 = 0;
      r3 = 0;
      x = 0;
      b = 0;
      d = pos 0;
      b2 = 0;
      d2 = pos 0;
      imm = pos 5;
      mask = 0;
      r1_in = lit< tt;
      r2_in = lit< tt;
      r3_in = lit< tt;
      x_in = lit< tt;
      b_in = lit< tt;
      b2_in = lit< tt;
      mask_in = lit< tt;
      shaped = refl;
    }

whole : reading_of (0xA7 ∷ 0x19 ∷ 0x00 ∷ 0x05 ∷ []) ≡ Some load_five
unfolding load_five number_of reading_of row_number entry_at table
whole = refl
