-- How bytes and rows are brought into one order: by a key of two bytes.
use Rattle.std.specs.Prelude.{ℕ, ◌+◌, ◌*◌, ◌/◌, ◌%◌, List, [], ◌∷◌, get_or, Bool, true, nat_eq, nat_le, ◌||◌, ◌&&◌, if◌then◌else◌}
use Rattle.std.specs.List.{list_all}
use Rattle.z_instr.specs.declared.format.Place.{Place}
use Rattle.z_instr.specs.declared.format.Place.TheVariants.{First, FirstTwo, FirstHalf, Ends}
use Rattle.z_instr.specs.Table.{Entry}
use Rattle.z_instr.specs.Layout.{place, lead}
use Rattle.z_instr.specs.Facts.{is_same_place}

-- where the rest of an opcode stands, by its first byte
abbrev pub place_by : ℕ → Place
place_by b =
    if nat_eq b 0xB2 || (nat_eq b 0xB9 || nat_eq b 0xE5) then FirstTwo
    else if nat_eq b 0xA5 || (nat_eq b 0xA7 || (nat_eq b 0xC0 || nat_eq b 0xC2)) then FirstHalf
    else if nat_eq b 0xE3 || (nat_eq b 0xEB || nat_eq b 0xEC) then Ends
    else First

-- the key of an opcode in a place: its first byte, and the rest as another, 0 where there is none
abbrev pub key_at : Place → ℕ → ℕ
key_at First opcode = opcode * 256
key_at FirstTwo opcode = opcode
key_at FirstHalf opcode = opcode / 16 * 256 + opcode % 16
key_at Ends opcode = opcode

abbrev pub key_of : Entry → ℕ
key_of e = key_at (place e.form) e.opcode

-- the key of the opcode that bytes have in a place
abbrev pub key_with : Place → List ℕ → ℕ
key_with First bytes = get_or bytes 0 0 * 256
key_with FirstTwo bytes = get_or bytes 0 0 * 256 + get_or bytes 1 0
key_with FirstHalf bytes = get_or bytes 0 0 * 256 + get_or bytes 1 0 % 16
key_with Ends bytes = get_or bytes 0 0 * 256 + get_or bytes 5 0

abbrev pub key_in : List ℕ → ℕ
key_in bytes = key_with (place_by (get_or bytes 0 0)) bytes

-- ---- tests of the table that compute

-- no number is above a later one
abbrev pub is_rising : List ℕ → Bool
is_rising [] = true
is_rising (x ∷ xs) = list_all (nat_le x) xs && is_rising xs

-- the first byte of the opcode tells its place
abbrev pub has_telling_lead : Entry → Bool
has_telling_lead e = is_same_place (place_by (lead (place e.form) e.opcode)) (place e.form)
