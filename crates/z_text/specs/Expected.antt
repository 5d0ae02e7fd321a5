-- Values of names that are expected.
use Rattle.std.specs.Prelude.{ℕ, ◌&&◌, List, length, Option, Some, None, nat_lt, ◌==◌, slice_index}
use Rattle.std.specs.Prelude.{slice_index_or, false, if◌then◌else◌}
use Rattle.std.specs.List.{prefix_len, slice_get}
use Rattle.z_text.specs.declared.expected.Expected.{Expected}
use Rattle.z_text.specs.declared.value.LabelValue.{LabelValue}

-- the first place whose number is not below this one
unfoldable pub place_in : List ℕ → ℕ → ℕ
place_in keys key = prefix_len (λ k. nat_lt k key) keys

-- this place, where the number stands there
abbrev pub place_for : List ℕ → ℕ → ℕ → Option ℕ
place_for keys key place =
    if nat_lt place (length keys) && (slice_index keys place == key) then Some place else None

-- the place of the name with this number, if it is expected
unfoldable pub place_of : Expected → ℕ → Option ℕ
place_of e key = place_for e.keys.items key (place_in e.keys.items key)

-- the value at a place, if there is one
unfoldable pub value_at : Expected → ℕ → Option LabelValue
value_at e place = if slice_index_or e.given.items place false then slice_get e.values.items place else None
