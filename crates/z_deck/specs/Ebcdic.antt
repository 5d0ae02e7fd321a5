-- The names on cards, in EBCDIC.
use Rattle.std.specs.Prelude.{ℕ, List, [], ◌∷◌, map, ◌==◌, if◌then◌else◌}

-- a character's code in ASCII, and its code point in EBCDIC
pub record Character : Type 0 where
  pub ascii : ℕ
  pub ebcdic : ℕ

abbrev pub character : ℕ → ℕ → Character
character ascii ebcdic = record { ascii = ascii; ebcdic = ebcdic }

-- the blank, and D E L M N R S T X Y Z, which are all letters of the names
abbrev pub characters : List Character
characters =
    character 32 0x40 ∷ character 68 0xC4 ∷ character 69 0xC5 ∷ character 76 0xD3 ∷ character 77 0xD4
    ∷ character 78 0xD5 ∷ character 82 0xD9 ∷ character 83 0xE2 ∷ character 84 0xE3 ∷ character 88 0xE7
    ∷ character 89 0xE8 ∷ character 90 0xE9 ∷ []

abbrev pub code_point_in : List Character → ℕ → ℕ
code_point_in [] letter = 0
code_point_in (c ∷ cs) letter = if c.ascii == letter then c.ebcdic else code_point_in cs letter

-- a text of these characters in EBCDIC
abbrev pub in_ebcdic : List ℕ → List ℕ
in_ebcdic text = map (code_point_in characters) text

-- the blank, of which a card is full before anything stands on it
abbrev pub blank : ℕ
blank = code_point_in characters 32
