-- Rows by their names, for worked values.
use Rattle.std.proofs.Common.{ℕ, List}
use Rattle.std.specs.List.{position_or_len}
use Rattle.std.specs.Str.{bytes_eq}
use Rattle.z_instr.specs.Table.{Entry, table}

-- the number of the row of a name
unfoldable pub number_of : List ℕ → ℕ
number_of name = position_or_len (λ (e : Entry). bytes_eq e.name name) table
