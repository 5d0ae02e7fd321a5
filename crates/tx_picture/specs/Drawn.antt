-- The text of a drawing.
use Rattle.std.specs.Prelude.{ℕ, ◌++◌, List, string_bytes}
use Rattle.std.specs.List.{flat_map}
use Rattle.tx_picture.specs.declared.drawing.Drawing.{Drawing}

-- its elements, one behind the other
abbrev pub text_of : Drawing → List ℕ
text_of d =
    string_bytes d.head ++ flat_map string_bytes d.attempts.items ++ flat_map string_bytes d.arrows.items
    ++ flat_map string_bytes d.turns.items ++ flat_map string_bytes d.entries.items ++ string_bytes d.legend
