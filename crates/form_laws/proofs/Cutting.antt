-- Texts whose lines are known: each row is one line, and lines one behind the other are the lines of their
-- text.
use Rattle.std.proofs.Common.{◌≡◌, ◌≢◌, ◌∙◌, ap, ap₂, sym, refl, ℕ, zero, suc, ◌+◌, ◌/◌, ◌%◌, ◌<◌}
use Rattle.std.proofs.Common.{arith, Bool, true, false, List, [], ◌∷◌, ◌++◌, append_assoc}
use Rattle.std.proofs.Common.{slice_index}
use Rattle.std.specs.Prelude.{◌==◌, if◌then◌else◌, nat_lt, codes}
use Rattle.std.specs.List.{flat_map, list_all}
use Rattle.std.specs.Fmt.{decimal, digits, digits_onto, digit_glyph}
use Rattle.std.proofs.lemmas.Bool.Decides.{nat_tests}
use Rattle.hex.specs.Hex.{encode_with, encode_lower, lower_digits}
use Rattle.tx_journal.specs.Numbers.{Lacks}
use Rattle.tx_check.specs.Lines.{lines_of}
use Rattle.tx_journal.proofs.OneSchedule.{lacks_both, lacks_front}
use Rattle.report_form.proofs.TextLines.{ended_front}

-- ---- bytes that a text lacks

-- letters, digits and blanks
pub plain_lack : (xs : List ℕ) → list_all (λ b. nat_lt 31 b) xs ≡ true → Lacks 10 xs
plain_lack [] above = λ i within. absurd (omega arith)
plain_lack (x ∷ xs) above =
    let head : nat_lt 31 x ≡ true = grind (arith, above) in
    let tail : list_all (λ b. nat_lt 31 b) xs ≡ true = grind (arith, above) in
    let other : x ≢ 10 = λ e. grind (arith, nat_tests) in
    lacks_front 10 x xs other (plain_lack xs tail)

-- ---- numbers of any size

glyph_other : (c d : ℕ) → c < 48 → (b : Bool) → (if b then 48 + d else 87 + d) ≢ c
glyph_other c d low true = λ e. omega (arith, e)
glyph_other c d low false = λ e. omega (arith, e)

-- a digit is above a blank
pub digit_lacks : (c d : ℕ) → c < 48 → Lacks c (digit_glyph false d ∷ [])
digit_lacks c d low = lacks_front c (digit_glyph false d) [] (glyph_other c d low (nat_lt d 10))
    (λ i within. absurd (omega arith))

onto_lacks : (c k n : ℕ) (acc : List ℕ) → c < 48 → Lacks c acc → Lacks c (digits_onto k 10 false n acc)
onto_lacks c zero n acc low lacks = lacks
onto_lacks c (suc k) n acc low lacks =
    let more = lacks_front c (digit_glyph false (n % 10)) acc (glyph_other c (n % 10) low (nat_lt
    (n % 10) 10)) lacks in
    by (n / 10 == 0) more (onto_lacks c k (n / 10) (digit_glyph false (n % 10) ∷ acc) low more)
  where
    by : (b : Bool) → Lacks c (digit_glyph false (n % 10) ∷ acc)
        → Lacks c (digits_onto k 10 false (n / 10) (digit_glyph false (n % 10) ∷ acc))
        → Lacks c (if b then digit_glyph false (n % 10) ∷ acc
        else digits_onto k 10 false (n / 10) (digit_glyph false (n % 10) ∷ acc))
    by true last more = last
    by false last more = more

pub decimal_lacks : (c n : ℕ) → c < 48 → Lacks c (decimal n)
unfolding digits
decimal_lacks c n low = onto_lacks c 64 n [] low (λ i within. absurd (omega arith))

other_at : (xs : List ℕ) → list_all (λ b. nat_lt 31 b) xs ≡ true → (d : ℕ) → slice_index xs d ≢ 10
other_at [] above d = λ e. omega (arith, e)
other_at (x ∷ xs) above zero =
    let head : nat_lt 31 x ≡ true = grind (arith, above) in
    λ e. grind (arith, nat_tests)
other_at (x ∷ xs) above (suc d) =
    let tail : list_all (λ b. nat_lt 31 b) xs ≡ true = grind (arith, above) in
    other_at xs tail d

-- hexadecimal digits
pub hex_lacks : (bytes : List ℕ) → Lacks 10 (encode_lower bytes)
unfolding encode_with
hex_lacks [] = λ i within. absurd (omega arith)
hex_lacks (b ∷ bytes) =
    lacks_front 10 (slice_index lower_digits (b / 16)) (slice_index lower_digits (b % 16) ∷ encode_lower bytes)
    (other_at lower_digits refl (b / 16))
    (lacks_front 10 (slice_index lower_digits (b % 16)) (encode_lower bytes) (other_at lower_digits refl
    (b % 16))
    (hex_lacks bytes))

-- ---- one line

-- a text without a line feed, and one behind it
pub record IsLine (line : List ℕ) : Type 0 where
  pub front : List ℕ
  pub cut : line ≡ front ++ 10 ∷ []
  pub lacks : Lacks 10 front

-- the end alone
pub line_end : IsLine (codes "\n")
line_end = record { front = []; cut = refl; lacks = λ i within. absurd (omega arith) }

-- more in front of a line
pub line_with : (text line : List ℕ) → Lacks 10 text → IsLine line → IsLine (text ++ line)
line_with text line lacks more = record {
  front = text ++ more.front;
  cut = ap (λ t. text ++ t) more.cut ∙ sym (append_assoc text more.front (10 ∷ []));
  lacks = lacks_both 10 text more.front lacks more.lacks;
}

-- ---- lines one behind the other

pub AreLines : List (List ℕ) → Type 0
AreLines [] = Unit {0}
AreLines (line ∷ lines) = IsLine line × AreLines lines

pub lines_behind : (ls more : List (List ℕ)) → AreLines ls → AreLines more → AreLines (ls ++ more)
unfolding AreLines
lines_behind [] more one two = two
lines_behind (l ∷ ls) more one two = (one.0, lines_behind ls more one.1 two)

pub line_before : (l : List ℕ) (ls : List (List ℕ)) → IsLine l → AreLines ls → AreLines (l ∷ ls)
unfolding AreLines
line_before l ls one two = (one, two)

-- the lines of joined lines are these lines
pub lines_joined : (lines : List (List ℕ)) → AreLines lines
    → lines_of (flat_map (λ (l : List ℕ). l) lines) ≡ lines
unfolding lines_of AreLines
lines_joined [] are = refl
lines_joined (l ∷ lines) are =
    let rest = flat_map (λ (l : List ℕ). l) lines in
    let one = are.0 in
    ap (λ t. lines_of (t ++ rest)) one.cut ∙ ap lines_of (append_assoc one.front (10 ∷ []) rest)
    ∙ ended_front one.front rest one.lacks ∙ ap₂ (λ a b. a ∷ b) (sym one.cut) (lines_joined lines are.1)

pub no_lines : AreLines []
unfolding AreLines
no_lines = tt
