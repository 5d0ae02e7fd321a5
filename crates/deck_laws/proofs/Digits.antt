-- Hexadecimal digits, as they are written and as they are read in capitals.
use Rattle.std.proofs.Common.{◌≡◌, ℕ, zero, suc, ◌+◌, ◌*◌, ◌/◌, ◌%◌, ◌<◌, ◌≤◌, Bool, true, false, not, ◌&&◌}
use Rattle.std.proofs.Common.{List, [], ◌∷◌, ◌++◌, length, map, Option, Some, None, refl, sym, ap, ap₂, ◌∙◌, arith}
use Rattle.std.specs.Prelude.{nat_lt, nat_le, ◌==◌, slice_index}
use Rattle.std.specs.List.{list_all}
use Rattle.std.specs.Char.{to_ascii_uppercase}
use Rattle.std.proofs.lemmas.Bool.{and_from}
use Rattle.hex.specs.Hex.{encode_with, encode_lower, lower_digits}
use Rattle.z_text.specs.Line.{is_inked, is_printed}
use Rattle.z_fields.specs.Data.{hex_digit, pair, byte_of, with_byte, pairs_of}

-- the digit of a number below 16, in capitals
abbrev pub capital_digit : ℕ → ℕ
capital_digit d = to_ascii_uppercase (slice_index lower_digits d)

pub record IsDigit (d b : ℕ) : Type 0 where
  pub value : hex_digit b ≡ Some d
  pub capital : to_ascii_uppercase b ≡ b
  pub printed : is_printed b ≡ true
  pub inked : is_inked b ≡ true
  pub visible : nat_lt 31 b ≡ true

abbrev known : (d b : ℕ) → hex_digit b ≡ Some d → to_ascii_uppercase b ≡ b → is_printed b ≡ true
    → is_inked b ≡ true → nat_lt 31 b ≡ true → IsDigit d b
known d b value capital printed inked visible = record {
  value = value;
  capital = capital;
  printed = printed;
  inked = inked;
  visible = visible;
}

digit_back : (d : ℕ) → d < 16 → IsDigit d (capital_digit d)
digit_back zero few = known _ _ refl refl refl refl refl
digit_back (suc zero) few = known _ _ refl refl refl refl refl
digit_back (suc (suc zero)) few = known _ _ refl refl refl refl refl
digit_back (suc (suc (suc zero))) few = known _ _ refl refl refl refl refl
digit_back (suc (suc (suc (suc zero)))) few = known _ _ refl refl refl refl refl
digit_back (suc (suc (suc (suc (suc zero))))) few = known _ _ refl refl refl refl refl
digit_back (suc (suc (suc (suc (suc (suc zero)))))) few = known _ _ refl refl refl refl refl
digit_back (suc (suc (suc (suc (suc (suc (suc zero))))))) few = known _ _ refl refl refl refl refl
digit_back (suc (suc (suc (suc (suc (suc (suc (suc zero)))))))) few = known _ _ refl refl refl refl refl
digit_back (suc (suc (suc (suc (suc (suc (suc (suc (suc zero))))))))) few = known _ _ refl refl refl refl refl
digit_back (suc (suc (suc (suc (suc (suc (suc (suc (suc (suc zero)))))))))) few = known _ _ refl refl refl refl refl
digit_back (suc (suc (suc (suc (suc (suc (suc (suc (suc (suc (suc zero))))))))))) few = known _ _ refl refl refl refl refl
digit_back (suc (suc (suc (suc (suc (suc (suc (suc (suc (suc (suc (suc zero)))))))))))) few = known _ _ refl refl refl refl refl
digit_back (suc (suc (suc (suc (suc (suc (suc (suc (suc (suc (suc (suc (suc zero))))))))))))) few = known _ _ refl refl refl refl refl
digit_back (suc (suc (suc (suc (suc (suc (suc (suc (suc (suc (suc (suc (suc (suc zero)))))))))))))) few = known _ _ refl refl refl refl refl
digit_back (suc (suc (suc (suc (suc (suc (suc (suc (suc (suc (suc (suc (suc (suc (suc zero))))))))))))))) few = known _ _ refl refl refl refl refl
digit_back (suc (suc (suc (suc (suc (suc (suc (suc (suc (suc (suc (suc (suc (suc (suc (suc n)))))))))))))))) few = absurd (omega arith)

-- bytes as capital digits
unfoldable pub capitals : List ℕ → List ℕ
capitals [] = []
capitals (b ∷ bs) = capital_digit (b / 16) ∷ capital_digit (b % 16) ∷ capitals bs

-- they are the small digits as they are read
pub capitals_are : (bytes : List ℕ) → map to_ascii_uppercase (encode_lower bytes) ≡ capitals bytes
unfolding encode_with capitals
capitals_are [] = refl
capitals_are (b ∷ bs) = ap (λ (t : List ℕ). capital_digit (b / 16) ∷ capital_digit (b % 16) ∷ t) (capitals_are bs)

abbrev pub AreBytes : List ℕ → Type 0
AreBytes bytes = (i : ℕ) → slice_index bytes i < 256

module _ (b : ℕ) (low : b < 256) where
  high_digit : IsDigit (b / 16) (capital_digit (b / 16))
  high_digit = digit_back (b / 16) (omega arith)

  low_digit : IsDigit (b % 16) (capital_digit (b % 16))
  low_digit = digit_back (b % 16) (omega arith)

  pub byte_back : byte_of (capital_digit (b / 16)) (capital_digit (b % 16)) ≡ Some b
  byte_back =
      let whole : b / 16 * 16 + b % 16 ≡ b = omega arith in
      ap₂ pair high_digit.value low_digit.value ∙ ap Some whole

-- pairs of digits and a quote are the bytes
pub pairs_back : (bytes : List ℕ) → AreBytes bytes → pairs_of (capitals bytes ++ 39 ∷ []) ≡ Some bytes
unfolding pairs_of capitals
pairs_back [] low = refl
pairs_back (b ∷ bs) low =
    ap₂ with_byte (byte_back b (low 0)) (pairs_back bs (λ i. low (suc i)))

-- a test of digits and the quote
pub all_digits : (p : ℕ → Bool) → ((d b : ℕ) → IsDigit d b → p b ≡ true) → p 39 ≡ true → (bytes : List ℕ)
    → AreBytes bytes → list_all p (capitals bytes ++ 39 ∷ []) ≡ true
unfolding capitals
all_digits p is quote [] low = and_from _ _ quote refl
all_digits p is quote (b ∷ bs) low =
    and_from _ _ (is _ _ (high_digit b (low 0)))
    (and_from _ _ (is _ _ (low_digit b (low 0))) (all_digits p is quote bs (λ i. low (suc i))))

pub capitals_capital : (bytes : List ℕ) → AreBytes bytes
    → map to_ascii_uppercase (capitals bytes ++ 39 ∷ []) ≡ capitals bytes ++ 39 ∷ []
unfolding capitals
capitals_capital [] low = refl
capitals_capital (b ∷ bs) low =
    let one = (high_digit b (low 0)).capital in
    let two = (low_digit b (low 0)).capital in
    ap₂ (λ (x : ℕ) (t : List ℕ). x ∷ t) one
    (ap₂ (λ (x : ℕ) (t : List ℕ). x ∷ t) two (capitals_capital bs (λ i. low (suc i))))

pub capitals_size : (bytes : List ℕ) → length (capitals bytes ++ 39 ∷ []) ≡ 2 * length bytes + 1
unfolding capitals
capitals_size [] = refl
capitals_size (b ∷ bs) = omega (arith, capitals_size bs)
