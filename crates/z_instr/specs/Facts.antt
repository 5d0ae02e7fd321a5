-- Facts of the whole table, as tests of its rows that compute.
use Rattle.std.specs.Prelude.{ℕ, Bool, true, false, ◌&&◌, ◌||◌, not, nat_eq, nat_lt, nat_le, length, List, [], ◌∷◌}
use Rattle.std.specs.List.{list_all}
use Rattle.std.specs.Str.{bytes_eq}
use Rattle.z_instr.specs.declared.format.Place.{Place}
use Rattle.z_instr.specs.declared.format.Place.TheVariants.{First, FirstTwo, FirstHalf, Ends}
use Rattle.z_instr.specs.declared.table.Line.{Line}
use Rattle.z_instr.specs.declared.operand.Operands.{Operands}
use Rattle.z_instr.specs.declared.operand.Operands.TheVariants.{StoredAndFetched, BothFetched}
use Rattle.z_instr.specs.declared.operand.Demand.{Demand}
use Rattle.z_instr.specs.declared.operand.Demand.TheVariants.{Begin, BeginConstrained, ServiceZero}
use Rattle.z_instr.specs.Table.{Entry}
use Rattle.z_instr.specs.Ranges.{limits_of}
use Rattle.z_instr.specs.Layout.{place, room, lead, length_by, form_length}

abbrev pub is_same_place : Place → Place → Bool
is_same_place First First = true
is_same_place FirstTwo FirstTwo = true
is_same_place FirstHalf FirstHalf = true
is_same_place Ends Ends = true
is_same_place _ _ = false

-- no bytes can have both opcodes: they begin with other bytes, or they stand in one place and differ
abbrev pub have_other_opcodes : Entry → Entry → Bool
have_other_opcodes a b =
    not (nat_eq (lead (place a.form) a.opcode) (lead (place b.form) b.opcode))
    || (is_same_place (place a.form) (place b.form) && not (nat_eq a.opcode b.opcode))

abbrev pub have_other_names : Entry → Entry → Bool
have_other_names a b = not (bytes_eq a.name b.name)

-- a test that each row passes with each row after it
abbrev pub all_pairs : (Entry → Entry → Bool) → List Entry → Bool
all_pairs test [] = true
all_pairs test (e ∷ es) = list_all (test e) es && all_pairs test es

-- the opcode fits its place, and its first byte gives the format's length
abbrev pub has_fitting_opcode : Entry → Bool
has_fitting_opcode e =
    nat_lt e.opcode (room (place e.form)) &&
    nat_eq (length_by (lead (place e.form) e.opcode)) (form_length e.form)

-- the name has one to eight letters, each of them ASCII
abbrev pub has_fitting_name : Entry → Bool
has_fitting_name e = nat_lt 0 (length e.name) &&
    (nat_le (length e.name) 8 && list_all (λ letter. nat_lt letter 128) e.name)

-- what every transaction refuses, constrained ones refuse too
abbrev pub is_refused_alike : Entry → Bool
is_refused_alike e = not (e.restricted && e.permitted)

-- a line of the code's table has no more letters than there is room for
abbrev pub has_fitting_count : Line → Bool
has_fitting_count l = nat_le l.count 8

abbrev pub has_two_lists : Operands → Bool
has_two_lists StoredAndFetched = true
has_two_lists BothFetched = true
has_two_lists _ = false

abbrev pub is_begin : Demand → Bool
is_begin Begin = true
is_begin BeginConstrained = true
is_begin _ = false

abbrev pub is_service : Demand → Bool
is_service ServiceZero = true
is_service _ = false

-- the immediate has no sign, and is below k
abbrev pub is_plain_below : ℕ → Entry → Bool
is_plain_below k e = nat_eq (limits_of e).imm.below 0 && nat_le (limits_of e).imm.above k

-- length codes and numbers of service calls are bytes, the controls of a begin a halfword, all without a sign
abbrev pub has_fitting_immediate : Entry → Bool
has_fitting_immediate e =
    (not (has_two_lists e.operands) || is_plain_below 256 e)
    && ((not (is_service e.demand) || is_plain_below 256 e) &&
    (not (is_begin e.demand) || is_plain_below 65536 e))

-- two tests answer alike
abbrev pub agree : Bool → Bool → Bool
agree true b = b
agree false b = not b
