-- Lines that are spelled, word by word.
use Rattle.std.proofs.Common.{◌≡◌, ap, sym, refl, subst, ℕ, zero, suc, ◌*◌, ◌/◌, ◌%◌, ◌<◌, ◌≤◌, ◌^◌, arith}
use Rattle.std.proofs.Common.{Bool, true, false, List, [], ◌∷◌, ◌++◌, append_assoc, length, slice_index, inl}
use Rattle.std.proofs.Common.{inr}
use Rattle.std.specs.Prelude.{◌&&◌, replicate}
use Rattle.std.specs.List.{flat_map}
use Rattle.std.specs.Fmt.{decimal, digit_glyph}
use Rattle.std.specs.Int.{to_be_bytes}
use Rattle.std.proofs.lemmas.Bool.{and_parts, cases_lt}
use mir.Syntax.{w8, w16, w32, w64}
use Rattle.hex.specs.Hex.{IsBytes, encode_with, encode_lower, lower_digits}
use Rattle.hex.proofs.HexLemmas.{length-encode_with}
use Rattle.report_form.specs.declared.words.Word.{Word}
use Rattle.report_form.specs.declared.words.Word.TheVariants.{Digits}
use Rattle.report_form.specs.Words.{IsWord, IsNumber, AreDigits, is_digit}
use Rattle.report_form.specs.Spelling.{Spelled, stop_between}
use Rattle.tx_journal.proofs.Hexadecimal.{high_first_bytes}

-- ---- words one behind the other

-- a word in front of others
pub word_then : (w next : Word) (others : List Word) (front rest : List ℕ) (stop : ℕ) → stop_between w ≡ stop
    → IsWord w front → Spelled (next ∷ others) rest → Spelled (w ∷ next ∷ others) (front ++ stop ∷ rest)
unfolding Spelled
word_then w next others front rest stop between is more = record {
  front = front;
  rest = rest;
  cut = ap (λ c. front ++ c ∷ rest) (sym between);
  is_word = is;
  goes_on = more;
}

-- the last word, with the end of the line
pub word_last : (w : Word) (front : List ℕ) → IsWord w front → Spelled (w ∷ []) (front ++ 10 ∷ [])
unfolding Spelled
word_last w front is = record { front = front; rest = []; cut = refl; is_word = is; goes_on = refl }

-- ---- numbers

pub a_number : (limit n : ℕ) → n < 2 ^ 64 → n ≤ limit → IsNumber limit (decimal n)
a_number limit n fits within = record { number = n; fits = fits; within = within; spelled = refl }

-- ---- hexadecimal digits

all_digits : List ℕ → ℕ → Bool
all_digits text zero = true
all_digits text (suc n) = is_digit (slice_index text n) && all_digits text n

digit_in : (text : List ℕ) (n k : ℕ) → all_digits text n ≡ true → k < n → is_digit (slice_index text k) ≡ true
unfolding all_digits
digit_in text zero k all below = absurd (omega arith)
digit_in text (suc n) k all below =
    let parts = and_parts (is_digit (slice_index text n)) (all_digits text n) all in
    elim (cases_lt k n) [
      | inl low ↦ digit_in text n k parts.1 low
      | inr high ↦ let same : n ≡ k = omega arith in subst (λ j. is_digit
          (slice_index text j) ≡ true) same parts.0
    ]

low_digits : (d : ℕ) → d < 16 → is_digit (slice_index lower_digits d) ≡ true
unfolding all_digits
low_digits d below = digit_in lower_digits 16 d refl below

more_digits : (x y : ℕ) (text : List ℕ) → is_digit x ≡ true → is_digit y ≡ true
    → ((k : ℕ) → k < length text → is_digit (slice_index text k) ≡ true)
    → (k : ℕ) → k < length (x ∷ y ∷ text) → is_digit (slice_index (x ∷ y ∷ text) k) ≡ true
more_digits x y text one two more zero below = one
more_digits x y text one two more (suc zero) below = two
more_digits x y text one two more (suc (suc k)) below = more k (omega arith)

each_digit : (bytes : List ℕ) → IsBytes bytes → (k : ℕ) → k < length (encode_lower bytes)
    → is_digit (slice_index (encode_lower bytes) k) ≡ true
unfolding encode_with
each_digit [] are = λ k below. absurd (omega arith)
each_digit (b ∷ bytes) are =
    let small : b < 256 = are 0 in
    more_digits (slice_index lower_digits (b / 16)) (slice_index lower_digits (b % 16)) (encode_lower bytes)
    (low_digits (b / 16) (omega arith)) (low_digits (b % 16) (omega arith))
    (each_digit bytes (λ k. are (suc k)))

-- bytes have twice as many digits
pub byte_digits : (bytes : List ℕ) → IsBytes bytes → AreDigits (2 * length bytes) (encode_lower bytes)
byte_digits bytes are = record { size = length-encode_with lower_digits bytes; digits = each_digit bytes are }

pub byte_text_digits : (n : ℕ) → AreDigits 2 (encode_lower (to_be_bytes w8 n))
byte_text_digits n = byte_digits (to_be_bytes w8 n) (high_first_bytes 1 n)

pub halfword_digits : (n : ℕ) → AreDigits 4 (encode_lower (to_be_bytes w16 n))
halfword_digits n = byte_digits (to_be_bytes w16 n) (high_first_bytes 2 n)

pub word_digits : (n : ℕ) → AreDigits 8 (encode_lower (to_be_bytes w32 n))
word_digits n = byte_digits (to_be_bytes w32 n) (high_first_bytes 4 n)

pub doubleword_digits : (n : ℕ) → AreDigits 16 (encode_lower (to_be_bytes w64 n))
doubleword_digits n = byte_digits (to_be_bytes w64 n) (high_first_bytes 8 n)

glyphs : ℕ → Bool
glyphs zero = true
glyphs (suc n) = is_digit (digit_glyph false n) && glyphs n

glyph_in : (n k : ℕ) → glyphs n ≡ true → k < n → is_digit (digit_glyph false k) ≡ true
unfolding glyphs
glyph_in zero k all below = absurd (omega arith)
glyph_in (suc n) k all below =
    let parts = and_parts (is_digit (digit_glyph false n)) (glyphs n) all in
    elim (cases_lt k n) [
      | inl low ↦ glyph_in n k parts.1 low
      | inr high ↦ let same : n ≡ k = omega arith in subst (λ j. is_digit
          (digit_glyph false j) ≡ true) same parts.0
    ]

one_digit : (x : ℕ) → is_digit x ≡ true → (k : ℕ) → k < 1 → is_digit (slice_index (x ∷ []) k) ≡ true
one_digit x is zero below = is
one_digit x is (suc k) below = absurd (omega arith)

-- a number below sixteen is one digit
pub a_digit : (n : ℕ) → n < 16 → AreDigits 1 (digit_glyph false n ∷ [])
unfolding glyphs
a_digit n below = record { size = refl; digits = one_digit (digit_glyph false n) (glyph_in 16 n refl below) }

-- ---- many values

-- values behind blanks, each in as many digits, behind a first word
pub values_then : (digits : ℕ) (f : ℕ → List ℕ) → ((v : ℕ) → AreDigits digits (f v))
    → (w : Word) (front : List ℕ)
    → stop_between w ≡ 32 → IsWord w front → (values : List ℕ)
    → Spelled (w ∷ replicate (length values) (Digits digits)) (front ++ (flat_map (λ v. 32 ∷ f v) values
    ++ 10 ∷ []))
values_then digits f each w front between is [] = word_last w front is
values_then digits f each w front between is (v ∷ vs) =
    let behind = flat_map (λ v. 32 ∷ f v) vs in
    subst (λ t. Spelled (w ∷ Digits digits ∷ replicate (length vs) (Digits digits)) (front ++ 32 ∷ t))
    (sym (append_assoc (f v) behind (10 ∷ [])))
    (word_then w (Digits digits) (replicate (length vs) (Digits digits)) front (f v ++ (behind
    ++ 10 ∷ [])) 32 between is
    (values_then digits f each (Digits digits) (f v) refl (each v) vs))
