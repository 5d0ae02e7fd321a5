-- The bytes of a run: storage as it has made it, and of each byte that it has touched the one before.
use Rattle.std.specs.Prelude.{ℕ, ◌%◌, Bool, false, List, get_or}
use Rattle.std.specs.List.{slice_index_or}
use Rattle.tx_lending.specs.Flat.{Storage}
use Rattle.tx_lending.specs.Places.{over}

pub record Own : Type 0 where
  pub now : List ℕ
  pub before : List ℕ
  pub touched : List Bool

-- a list of bytes as storage, with zeros behind its end
abbrev pub bytes_at : List ℕ → Storage
bytes_at bytes a = get_or bytes a 0

abbrev pub is_touched : Own → ℕ → Bool
is_touched o a = slice_index_or o.touched a false

-- each byte as it was before it was touched first
abbrev pub given : Own → Storage
given o = over (is_touched o) (bytes_at o.before) (bytes_at o.now)

-- the bytes of one line, at the places of that line
abbrev pub line_bytes : List ℕ → Storage
line_bytes line a = get_or line (a % 256) 0
