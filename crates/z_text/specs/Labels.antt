-- What a table of labels says.
use Rattle.std.specs.Prelude.{ℕ, ℤ, ◌+◌, ◌*◌, List, [], ◌∷◌, Option, Some, None, option_map, slice_index}
use Rattle.std.specs.Prelude.{if◌then◌else◌, take}
use Rattle.std.specs.BTreeMap.{get_by}
use Rattle.std.specs.Int.{w64, from_be_bytes}
use Rattle.std.specs.List.{prefix_len}
use Rattle.std.specs.Ordering.{nat_cmp}
use Rattle.std.specs.Cmp.Lexicographic.{slice_cmp}
use Rattle.z_text.specs.Expected.{place_of, value_at}
use Rattle.z_text.specs.Line.{is_inked, is_name}
use Rattle.z_text.specs.Value.{value_from}
use Rattle.z_text.specs.declared.labels.Labels.{Labels}
use Rattle.z_text.specs.declared.value.LabelValue.{LabelValue}

-- the eight bytes from a place on as a number, with zeros behind the last byte
unfoldable pub word_at : List ℕ → ℕ → ℕ
word_at name at = from_be_bytes w64 (slice_index name at ∷ slice_index name (at + 1) ∷
    slice_index name (at + 2) ∷ slice_index name (at + 3) ∷ slice_index name (at + 4) ∷
    slice_index name (at + 5) ∷ slice_index name (at + 6) ∷ slice_index name (at + 7) ∷ [])

-- the first sixteen bytes as a number
unfoldable pub key_of : List ℕ → ℕ
key_of name = word_at name 0 * 18446744073709551616 + word_at name 8

abbrev pub key_if_name : List ℕ → Option ℕ
key_if_name name = if is_name name then Some (key_of name) else None

-- the number of the name that stands at the begin of a line, if one does
abbrev pub key_in_front : List ℕ → Option ℕ
key_in_front line = key_if_name (take (prefix_len is_inked line) line)

-- the place of a name among those that are expected
unfoldable pub place_in : Labels → List ℕ → Option ℕ
place_in l name = if is_name name then place_of l.expected (key_of name) else None

abbrev pub value_of : LabelValue → ℤ
value_of v = value_from v.negative v.bytes

-- the value at this place, or else among the other names
abbrev pub found_at : Option ℕ → Labels → List ℕ → Option LabelValue
found_at (Some place) l name = value_at l.expected place
found_at None l name = get_by (λ k. slice_cmp nat_cmp name k.items) l.others

-- the value of the label of this name, if there is one
unfoldable pub value_in : Labels → List ℕ → Option ℤ
value_in l name = option_map value_of (found_at (place_in l name) l name)
