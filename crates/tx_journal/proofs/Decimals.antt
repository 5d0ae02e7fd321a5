-- Numbers in decimal: what the library's parser says of them, and texts that begin with one.
use Rattle.std.proofs.Common.{◌≡◌, ◌≢◌, ℕ, ◌<◌, ◌≤◌, ◌+◌, ◌/◌, ◌%◌, ◌^◌, suc, Bool, true, not, List, [], ◌∷◌, ◌++◌, Ok, Err}
use Rattle.std.proofs.Common.{arith, ap, sym, ◌∙◌, refl, subst}
use Rattle.std.specs.Fmt.{decimal}
use Rattle.std.specs.Str.{IsUtf8, bytes_eq}
use Rattle.std.proofs.lemmas.Slice.Eq.{bytes_eq-Decides}
use Rattle.std.specs.Str.Parse.{ParsesUnsigned, AllDigits, digits_value}
use Rattle.std.proofs.lemmas.Str.{IsUtf8-from_ascii}
use Rattle.std.proofs.lemmas.Str.Parse.{IsNumeralModel, numerals_by_value, tells_digits, not_in_digits}
use Rattle.std.proofs.lemmas.Fmt.{IsAscii-decimal, decimal_digit, decimal_step, parse-decimal, digits_decimal, decimal_injective}
use Rattle.std.specs.Int.{IsInRange}
use Rattle.tx_journal.specs.Numbers.{Lacks, number_before}

own : IsNumeralModel (AllDigits 10) (digits_value 10)
own = numerals_by_value _ tells_digits

pub decimal_is_text : (text : List ℕ) (n : ℕ) → n < 2 ^ 64 → text ≡ decimal n → IsUtf8 text
decimal_is_text text n small is = subst IsUtf8 (sym is) (IsUtf8-from_ascii _ (IsAscii-decimal n small))

pub decimal_is_parsed : {E : Type 0} (text : List ℕ) (n : ℕ) (e : E) → n < 2 ^ 64 → text ≡ decimal n
    → ParsesUnsigned 64 10 text (Err e) → ⊥
decimal_is_parsed text n e small is parsed = let ok = parse-decimal 64 n text (Err e) small small is parsed in
    cc

pub decimal_is_value : (text : List ℕ) (m n : ℕ) → n < 2 ^ 64 → text ≡ decimal n
    → ParsesUnsigned {E = ℕ} 64 10 text (Ok m) → m ≡ n
decimal_is_value text m n small is parsed = let ok =
    parse-decimal {E = ℕ} 64 n text (Ok m) small small is parsed in cc

-- ---- texts up to a blank

pub lacks_rest : (c d : ℕ) (xs : List ℕ) → Lacks c (d ∷ xs) → Lacks c xs
lacks_rest c d xs lacks = λ i below. lacks (suc i) (omega arith)

pub lacks_not_there : (c : ℕ) (xs ys : List ℕ) → Lacks c (xs ++ c ∷ ys) → ⊥
lacks_not_there c [] ys lacks = lacks 0 (omega arith) refl
lacks_not_there c (x ∷ xs) ys lacks = lacks_not_there c xs ys (lacks_rest c x (xs ++ c ∷ ys) lacks)

pub record SameCut (xs xs' ys ys' : List ℕ) : Type 0 where
  pub front : xs ≡ xs'
  pub behind : ys ≡ ys'

-- where a byte first stands, there is one front and one rest
pub same_cut : (c : ℕ) (xs xs' ys ys' : List ℕ) → Lacks c xs → Lacks c xs' → xs ++ c ∷ ys ≡ xs' ++ c ∷ ys'
    → SameCut xs xs' ys ys'
same_cut c [] [] ys ys' lacks lacks' is = record { front = refl; behind = cc }
same_cut c [] (x ∷ xs') ys ys' lacks lacks' is = let e : x ≡ c = cc in absurd (lacks' 0 (omega arith) e)
same_cut c (x ∷ xs) [] ys ys' lacks lacks' is = let e : x ≡ c = cc in absurd (lacks 0 (omega arith) e)
same_cut c (x ∷ xs) (y ∷ xs') ys ys' lacks lacks' is =
    let head : x ≡ y = cc in
    let tail : xs ++ c ∷ ys ≡ xs' ++ c ∷ ys' = cc in
    let rest = same_cut c xs xs' ys ys' (lacks_rest c x xs lacks) (lacks_rest c y xs' lacks') tail in
    record { front = let f = rest.front in cc; behind = rest.behind }

lacks_other : (c n : ℕ) → n < 2 ^ 64 → ¬ (IsInRange 48 57 c) → Lacks c (decimal n)
lacks_other c n small other = not_in_digits own (decimal n) c (digits_decimal own n small) other

pub lacks_number : (c n : ℕ) → n < 2 ^ 64 → c < 48 → Lacks c (decimal n)
lacks_number c n small low = lacks_other c n small (λ within. omega (arith, within))

pub above_digits : (n : ℕ) → n < 2 ^ 64 → Lacks 88 (decimal n)
above_digits n small = lacks_other 88 n small (λ within. omega (arith, within))

pub no_number_before : (text : List ℕ) (n : ℕ) (rest : List ℕ) → Lacks 32 text → text ≢ number_before n rest
no_number_before text n rest lacks is = lacks_not_there 32 (decimal n) rest (subst (Lacks 32) is lacks)

pub first_is_number : (text digits rest : List ℕ) (n : ℕ) (behind : List ℕ) → n < 2 ^ 64 → Lacks 32 digits
    → text ≡ digits ++ 32 ∷ rest
    → text ≡ number_before n behind → digits ≡ decimal n
first_is_number text digits rest n behind small lacks is begins =
    (same_cut 32 digits (decimal n) rest behind lacks (lacks_number 32 n small (omega arith)) (sym is
    ∙ begins)).front

-- a text begins with one number at most
pub record SameStart (m n : ℕ) (xs ys : List ℕ) : Type 0 where
  pub number : m ≡ n
  pub rest : xs ≡ ys

pub same_start : (text : List ℕ) (m n : ℕ) (xs ys : List ℕ) → m < 2 ^ 64 → n < 2 ^ 64
    → text ≡ number_before m xs → text ≡ number_before n ys → SameStart m n xs ys
same_start text m n xs ys m_in n_in is also =
    let cut =
    same_cut 32 (decimal m) (decimal n) xs ys (lacks_number 32 m m_in (omega arith))
    (lacks_number 32 n n_in (omega arith)) (sym is ∙ also) in
    record { number = decimal_injective m n m_in n_in cut.front; rest = cut.behind }

-- equal texts are not found to differ
pub not_other : (a b : List ℕ) (r : Bool) → a ≡ b → r ≡ not (bytes_eq a b) → r ≡ true → ⊥
not_other a b r same is differs = let equal = (bytes_eq-Decides a b).1 same in let no = rw equal at is in cc

-- ---- numbers of two digits

pub two_digits : (n : ℕ) → 10 ≤ n → n < 100 → decimal n ≡ (48 + n / 10) ∷ (48 + n % 10) ∷ []
two_digits n low high =
    decimal_step n low (omega arith)
    ∙ ap (λ ds. ds ++ (48 + n % 10) ∷ []) (decimal_digit (n / 10) (omega arith))
