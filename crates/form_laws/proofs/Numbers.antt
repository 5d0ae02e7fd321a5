-- Numbers of any size in decimal, told apart from those of 64 bits; and lines read word by word.
use Rattle.std.proofs.Common.{◌≡◌, ◌∙◌, ap, sym, refl, subst, ℕ, zero, suc, ◌+◌, ◌*◌, ◌/◌, ◌%◌, ◌<◌, ◌≤◌, ◌^◌}
use Rattle.std.proofs.Common.{arith}
use Rattle.std.proofs.Common.{Bool, false, List, [], ◌∷◌, ◌++◌, length, inl, inr}
use Rattle.std.specs.Prelude.{◌==◌, if◌then◌else◌}
use Rattle.std.specs.Fmt.{decimal, digits, digits_onto, digit_glyph}
use Rattle.std.specs.Str.Parse.{digits_value}
use Rattle.std.proofs.lemmas.Bool.{cases_lt}
use Rattle.std.proofs.lemmas.Fmt.{decimal_is_IsNumeral, decimal_is_IsNumeral_wide, length-decimal-le}
use Rattle.tx_journal.specs.Numbers.{Lacks}
use Rattle.tx_journal.proofs.Decimals.{same_cut}
use Rattle.report_form.specs.declared.words.Word.{Word}
use Rattle.report_form.specs.declared.words.Word.TheVariants.{AtMost}
use Rattle.report_form.specs.Words.{IsWord, IsNumber}
use Rattle.report_form.specs.Spelling.{Spelled, stop_between}
use Rattle.report_form.proofs.WordLemmas.{word_lacks}
use Rattle.form_laws.proofs.Cutting.{decimal_lacks}

-- ---- decimals

-- the least number with one digit more than so many
abbrev tens : ℕ → ℕ
tens zero = 1
tens (suc k) = 10 * tens k

some_tens : (k : ℕ) → 1 ≤ tens k
some_tens zero = omega arith
some_tens (suc k) = let h = some_tens k in omega (arith, h)

not_last : (n : ℕ) → 1 ≤ n → (n == 0) ≡ false
not_last n some = grind (arith, some)

-- a number that is too large has as many digits as are written
onto_length : (k n : ℕ) (acc : List ℕ) → tens k ≤ n → length (digits_onto k 10 false n acc) ≡ k + length acc
onto_length zero n acc large = omega arith
onto_length (suc k) n acc large =
    let low : tens k ≤ n / 10 = omega (arith, large) in
    let some : 1 ≤ n / 10 = let t = some_tens k in omega (arith, t, low) in
    let more = digit_glyph false (n % 10) ∷ acc in
    let rest = onto_length k (n / 10) more low in
    ap (λ (b : Bool). length (if b then more else digits_onto k 10 false (n / 10) more)) (not_last
    (n / 10) some)
    ∙ rest ∙ omega arith

wide_length : (n : ℕ) → tens 64 ≤ n → length (decimal n) ≡ 64
unfolding digits
wide_length n large = onto_length 64 n [] large ∙ omega arith

-- no other number is written as one of 64 bits
pub decimal_tells : (m n : ℕ) → n < 2 ^ 64 → decimal m ≡ decimal n → m ≡ n
decimal_tells m n small is =
    elim (cases_lt m (tens 64)) [
      | inl low ↦
          sym (decimal_is_IsNumeral_wide m (omega (arith, low))).1 ∙ ap (digits_value 10) is
          ∙ (decimal_is_IsNumeral n small).1
      | inr high ↦
          let long = wide_length m high in
          let short = length-decimal-le 20 n (omega arith) (omega (arith, small)) small in
          let same = ap length is in
          absurd (omega (arith, long, short, same))
    ]

-- ---- words

-- the first word is what stands before the first blank, and the others are behind
pub record Parted (w next : Word) (others : List Word) (front rest : List ℕ) : Type 0 where
  pub is_word : IsWord w front
  pub goes_on : Spelled (next ∷ others) rest

pub word_first : (w next : Word) (others : List Word) (front rest : List ℕ) → stop_between w ≡ 32
    → Lacks 32 front
    → Spelled (w ∷ next ∷ others) (front ++ 32 ∷ rest) → Parted w next others front rest
unfolding Spelled
word_first w next others front rest between lacks h =
    let same = same_cut 32 front h.front rest h.rest lacks (word_lacks w 32 h.front (omega arith) h.is_word)
    (h.cut ∙ ap (λ c. h.front ++ c ∷ h.rest) between) in
    record {
      is_word = subst (IsWord w) (sym same.front) h.is_word;
      goes_on = subst (Spelled (next ∷ others)) (sym same.behind) h.goes_on;
    }

pub word_only : (w : Word) (front : List ℕ) → Lacks 10 front → Spelled (w ∷ []) (front ++ 10 ∷ [])
    → IsWord w front
unfolding Spelled
word_only w front lacks h =
    let same = same_cut 10 front h.front [] h.rest lacks (word_lacks w 10 h.front
    (omega arith) h.is_word) h.cut in
    subst (IsWord w) (sym same.front) h.is_word

-- a number that is spelled is within its limit
pub within : (limit n : ℕ) → IsNumber limit (decimal n) → n ≤ limit
within limit n h =
    let same : n ≡ h.number = decimal_tells n h.number h.fits h.spelled in
    let low = h.within in
    omega (arith, same, low)

-- and behind it the others are
pub number_first : (limit : ℕ) (next : Word) (others : List Word) (n : ℕ) (rest : List ℕ)
    → Spelled (AtMost limit ∷ next ∷ others) (decimal n ++ 32 ∷ rest)
    → Parted (AtMost limit) next others (decimal n) rest
number_first limit next others n rest h =
    word_first (AtMost limit) next others (decimal n) rest refl (decimal_lacks 32 n (omega arith)) h
