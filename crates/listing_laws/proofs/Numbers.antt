-- Numbers, signs and marks as words of a line.
use Rattle.std.proofs.Common.{◌≡◌, ℕ, suc, ◌+◌, ◌-◌, ◌<◌, ◌^◌, Bool, true, false, not, ◌&&◌, ◌||◌}
use Rattle.std.proofs.Common.{List, [], ◌∷◌, ◌++◌}
use Rattle.std.proofs.Common.{length, map, get_or, Some, None, is_some, refl, ap, ap₂}
use Rattle.std.proofs.Common.{◌∙◌, arith, cond}
use Rattle.std.proofs.Common.{lt-ltb, le-leb}
use Rattle.std.specs.Prelude.{◌==◌, if◌then◌else◌, nat_lt}
use Rattle.std.specs.List.{prefix_len, list_all}
use Rattle.std.specs.Char.{to_ascii_uppercase, is_ascii_digit, is_ascii_uppercase, is_digit}
use Rattle.std.specs.Fmt.{decimal}
use Rattle.std.specs.Int.{IsInRange}
use Rattle.std.specs.Str.Parse.{digits_value}
use Rattle.std.proofs.lemmas.Fmt.{digits_decimal, digits_value-decimal, decimal_nonempty}
use Rattle.std.proofs.lemmas.Str.Parse.{IsNumeralModel, numerals_by_value, tells_by_index}
use Rattle.std.proofs.lemmas.Bool.{and_from}
use Rattle.std.proofs.lemmas.Bool.Decides.{nat_tests}
use Rattle.z_text.specs.Line.{is_inked}
use Rattle.z_text.specs.Numbers.{number_behind, number_of}
use Rattle.z_text.specs.Tokens.{kind_at, size_for, continues_number, begins_quote}
use Rattle.z_text.specs.Tokens.{mark_of, is_bad_piece, is_numeric}
use Rattle.z_text.specs.declared.token.TokenKind.{TokenKind}
use Rattle.z_text.specs.declared.token.TokenKind.TheVariants.{Name, Number, Hex, Sign, Open, Close, Comma}
use Rattle.z_text.specs.declared.token.TokenKind.TheVariants.{Star}
use Rattle.listing_laws.proofs.Words.{Word, word, IsCut}
use Rattle.listing_laws.proofs.Lines.{prefix_to}

-- ---- digits

abbrev pub AreDigits : List ℕ → Type 0
AreDigits ds = (i : ℕ) → i < length ds → IsInRange 48 57 (get_or ds i 0)

own : IsNumeralModel AreDigits (digits_value 10)
own = numerals_by_value _ tells_by_index

pub digits_are : (n : ℕ) → n < 2 ^ 64 → AreDigits (decimal n)
digits_are n small = digits_decimal own n small

pub record IsDigitByte (b : ℕ) : Type 0 where
  pub digit : is_ascii_digit b ≡ true
  pub tenth : is_digit b 10 ≡ true
  pub capital : to_ascii_uppercase b ≡ b
  pub goes_on : continues_number b ≡ true
  pub inked : is_inked b ≡ true

pub digit_byte : (b : ℕ) → IsInRange 48 57 b → IsDigitByte b
digit_byte b (low, high) =
    let digit : is_ascii_digit b ≡ true = and_from _ _ (le-leb 48 b low) (le-leb b 57 high) in
    record {
      digit = digit;
      tenth = grind (arith, nat_tests);
      capital = ap (λ c. cond c b (cond (nat_lt b 123) (b - 32) b)) (lt-ltb b 97 (omega arith));
      goes_on = grind (arith, nat_tests);
      inked = grind (arith, nat_tests);
    }

pub all_by : (p : ℕ → Bool) → ((b : ℕ) → IsInRange 48 57 b → p b ≡ true) → (ds : List ℕ) → AreDigits ds
    → list_all p ds ≡ true
all_by p h [] are = refl
all_by p h (d ∷ ds) are = and_from _ _ (h d (are 0 (omega arith))) (all_by p h ds (λ i below. are (suc i)
    (omega arith)))

pub capitals : (ds : List ℕ) → AreDigits ds → map to_ascii_uppercase ds ≡ ds
capitals [] are = refl
capitals (d ∷ ds) are = ap₂ (λ (b : ℕ) (bs : List ℕ). b ∷ bs) (digit_byte d (are 0 (omega arith))).capital
    (capitals ds (λ i below. are (suc i) (omega arith)))

kind_digits : (t rest : List ℕ) → 0 < length t → AreDigits t → kind_at (t ++ rest) ≡ Some Number
unfolding kind_at
kind_digits [] rest some are = absurd (omega arith)
kind_digits (d ∷ ds) rest some are =
    ap (λ b. if b then Some Number
    else (if (d == 88) && begins_quote (ds ++ rest) then Some Hex
    else (if is_ascii_uppercase d then Some Name
    else mark_of d))) (digit_byte d (are 0 (omega arith))).digit

size_digits : (t rest : List ℕ) → 0 < length t → AreDigits t → prefix_len continues_number rest ≡ 0
    → size_for (Some Number) (t ++ rest) ≡ length t
size_digits [] rest some are stops = absurd (omega arith)
size_digits (d ∷ ds) rest some are stops =
    ap (λ n. 1 + n) (prefix_to continues_number ds rest
    (all_by continues_number (λ b h. (digit_byte b h).goes_on) ds (λ i below. are (suc i) (omega arith)))
    stops)
    ∙ omega arith

abbrev pub number : ℕ → Word
number n = word Number (decimal n)

pub number_is : (n : ℕ) → n < 2 ^ 64 → number_of Number (decimal n) ≡ Some n
unfolding number_of number_behind
number_is n small =
    let value : digits_value 10 (decimal n) ≡ n = digits_value-decimal own n small in
    let tenths = all_by (λ b. is_digit b 10) (λ b h. (digit_byte b h).tenth) (decimal n) (digits_are n
    small) in
    ap₂ (λ (b : Bool) (v : ℕ). if b && nat_lt v (2 ^ 64) then Some v else None) tenths value
    ∙ ap (λ b. if b then Some n else None) (lt-ltb n (2 ^ 64) small)

pub number_cut : (n : ℕ) (rest : List ℕ) → n < 2 ^ 64 → prefix_len continues_number rest ≡ 0
    → IsCut (number n) rest
number_cut n rest small stops =
    let are = digits_are n small in
    let some = decimal_nonempty n small in
    record {
      some = some;
      kind = kind_digits (decimal n) rest some are;
      size = size_digits (decimal n) rest some are stops;
      fair = refl;
      number = ap is_some (number_is n small);
      capital = capitals (decimal n) are;
      inked = all_by is_inked (λ b h. (digit_byte b h).inked) (decimal n) are;
      visible = all_by (λ b. nat_lt 31 b) (λ b h. lt-ltb 31 b (omega (arith, h.0))) (decimal n) are;
    }

-- ---- signs and marks

abbrev pub plus : Word
plus = word Sign (43 ∷ [])

abbrev pub minus : Word
minus = word Sign (45 ∷ [])

abbrev pub opening : Word
opening = word Open (40 ∷ [])

abbrev pub closing : Word
closing = word Close (41 ∷ [])

abbrev pub comma : Word
comma = word Comma (44 ∷ [])

abbrev pub star : Word
star = word Star (42 ∷ [])

mark_cut : (k : TokenKind) (b : ℕ) (rest : List ℕ) → kind_at (b ∷ rest) ≡ Some k
    → size_for (Some k) (b ∷ rest) ≡ 1 → is_bad_piece (Some k) 1 ≡ false → is_numeric k ≡ false
    → to_ascii_uppercase b ≡ b → not (b == 32) ≡ true → nat_lt 31 b ≡ true → IsCut (word k (b ∷ [])) rest
mark_cut k b rest kind size fair number capital inked visible = record {
  some = omega arith;
  kind = kind;
  size = size;
  fair = fair;
  number = ap (λ t. not t || is_some (number_of k (b ∷ []))) number;
  capital = ap (λ c. c ∷ []) capital;
  inked = and_from _ _ inked refl;
  visible = and_from _ _ visible refl;
}

pub plus_cut : (rest : List ℕ) → IsCut plus rest
unfolding kind_at
plus_cut rest = mark_cut Sign 43 rest refl refl refl refl refl refl refl

pub minus_cut : (rest : List ℕ) → IsCut minus rest
unfolding kind_at
minus_cut rest = mark_cut Sign 45 rest refl refl refl refl refl refl refl

pub opening_cut : (rest : List ℕ) → IsCut opening rest
unfolding kind_at
opening_cut rest = mark_cut Open 40 rest refl refl refl refl refl refl refl

pub closing_cut : (rest : List ℕ) → IsCut closing rest
unfolding kind_at
closing_cut rest = mark_cut Close 41 rest refl refl refl refl refl refl refl

pub comma_cut : (rest : List ℕ) → IsCut comma rest
unfolding kind_at
comma_cut rest = mark_cut Comma 44 rest refl refl refl refl refl refl refl

pub star_cut : (rest : List ℕ) → IsCut star rest
unfolding kind_at
star_cut rest = mark_cut Star 42 rest refl refl refl refl refl refl refl
