-- Numbers in a text: decimal ones behind a label, and hexadecimal ones with as many digits as their size asks
-- for.
use Rattle.std.specs.Prelude.{ℕ, List, [], ◌∷◌, ◌++◌, false, codes}
use Rattle.std.specs.Fmt.{decimal, digit_glyph}
use Rattle.std.specs.Int.{to_be_bytes}
use Rattle.hex.specs.Hex.{encode_lower}
use mir.Syntax.{w16, w32, w64}

unfoldable pub labelled : List ℕ → ℕ → List ℕ
labelled label number = label ++ decimal number

-- a line of its own
unfoldable pub number_line : List ℕ → ℕ → List ℕ
number_line label number = labelled label number ++ codes "\n"

abbrev pub digit_text : ℕ → List ℕ
digit_text n = digit_glyph false n ∷ []

abbrev pub halfword_text : ℕ → List ℕ
halfword_text n = encode_lower (to_be_bytes w16 n)

abbrev pub word_text : ℕ → List ℕ
word_text n = encode_lower (to_be_bytes w32 n)

abbrev pub doubleword_text : ℕ → List ℕ
doubleword_text n = encode_lower (to_be_bytes w64 n)
