-- The value of a label, as it is kept.
use Rattle.std.specs.Prelude.{ℕ, ℤ, pos, negsuc, Bool, true, false, List}
use Rattle.std.specs.Int.{w64, from_be_bytes}

-- bytes that count up from 0, or down from -1
abbrev pub value_from : Bool → List ℕ → ℤ
value_from true bytes = negsuc (from_be_bytes w64 bytes)
value_from false bytes = pos (from_be_bytes w64 bytes)
