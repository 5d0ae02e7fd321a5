-- The steps of reading a number from its first digit on.
use Rattle.std.proofs.Common.{◌≡◌, ℕ, ◌+◌, ◌*◌, ◌<◌, ◌≤◌, ◌^◌, true, false, List, [], ◌∷◌, length, get_or}
use Rattle.std.proofs.Common.{drop, Some, None, refl, arith, nat_lt, le-ltb, lt-ltb, length-drop}
use Rattle.std.proofs.Common.{mul-le-mul_left, add-one}
use Rattle.std.proofs.Math.Seq.{drop-cons}
use Rattle.std.specs.Char.{is_digit, digit_value}
use Rattle.std.proofs.lemmas.Grind.{common_steps}
use Rattle.std.specs.Str.Parse.{digits_value_after}
use Rattle.z_text.specs.Numbers.{number_behind}

no_digit : (base n b : ℕ) (bs : List ℕ) → is_digit b base ≡ false → number_behind base n (b ∷ bs) ≡ None
unfolding number_behind
no_digit base n b bs e = rw e refl

one_digit : (base n b : ℕ) (bs : List ℕ) → is_digit b base ≡ true →
    number_behind base n (b ∷ bs) ≡ number_behind base (n * base + digit_value b) bs
unfolding number_behind
one_digit base n b bs e = rw e refl

-- More digits make no smaller number.
value_grows : (base n : ℕ) (bs : List ℕ) → 2 ≤ base → n ≤ digits_value_after base n bs
value_grows base n [] h = omega arith
value_grows base n (b ∷ bs) h =
    let rest = value_grows base (n * base + digit_value b) bs h in
    let shifted : n * 1 ≤ n * base = mul-le-mul_left n (omega arith) in omega (arith, rest, shifted)

pub number_too_big : (base n : ℕ) (bs : List ℕ) → 2 ≤ base → 2 ^ 64 ≤ n → number_behind base n bs ≡ None
unfolding number_behind
number_too_big base n bs h big =
    let no : nat_lt (digits_value_after base n bs) (2 ^ 64) ≡ false =
    le-ltb _ _ (omega (arith, value_grows base n bs h)) in grind arith

no_more : (base n : ℕ) (bs : List ℕ) → n < 2 ^ 64 → length bs ≤ 0 → number_behind base n bs ≡ Some n
unfolding number_behind
no_more base n [] h e = rw (lt-ltb n (2 ^ 64) h) refl
no_more base n (b ∷ bs) h e = absurd (omega arith)

pub drop_here : (i : ℕ) (text : List ℕ) → i < length text → drop i text ≡ get_or text i 0 ∷ drop (i + 1) text
drop_here i text h = rw (add-one, drop-cons text i 0) refl

-- the same by the place in the text
pub no_digit_at : (base n i : ℕ) (text : List ℕ) → i < length text → is_digit (get_or text i 0) base ≡ false →
    number_behind base n (drop i text) ≡ None
no_digit_at base n i text h e = rw (drop_here i text h) (no_digit base n _ _ e)

pub digit_at : (base n i : ℕ) (text : List ℕ) → i < length text → is_digit (get_or text i 0) base ≡ true →
    number_behind base n (drop i text) ≡ number_behind base (n * base + digit_value (get_or text i 0))
    (drop (i + 1) text)
digit_at base n i text h e = rw (drop_here i text h) (one_digit base n _ _ e)

pub number_ends : (base n i : ℕ) (text : List ℕ) → length text ≤ i → n < 2 ^ 64 →
    number_behind base n (drop i text) ≡ Some n
number_ends base n i text h e = no_more base n _ e (simp length-drop (omega arith))

pub ruleset number_steps = (no_digit_at, digit_at, number_ends, common_steps)
