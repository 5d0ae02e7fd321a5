-- One word: its bits as tests, and what is read from them.
use Rattle.std.proofs.Common.{◌≡◌, ◌≢◌, ℕ, ◌-◌, ◌*◌, ◌%◌, ◌^◌, ◌<◌, ◌≤◌, min, Bool, true, false, cond, eqb}
use Rattle.std.proofs.Common.{refl, sym, ap, ◌∙◌, arith, w64, bit_and, bit_or}
use Rattle.std.proofs.Common.{◌/◌, max, ltb, leb}
use Rattle.std.specs.Prelude.{not, ◌||◌, ◌&&◌}
use Rattle.std.specs.Int.{bit_at, bit_not, trailing_zeros}
use Rattle.std.proofs.lemmas.Bool.{cases_lt, cases_eq, eq-eqb, ne_eqb, eqb-true, eqb-false, lt-ltb, le-ltb}
use Rattle.std.proofs.lemmas.Bool.{le-leb, lt-leb}
use Rattle.std.proofs.lemmas.Nat.Bits.{bit_at-lt, bit_at_and, bit_at_mask_inside, bit_at_mask_below}
use Rattle.std.proofs.lemmas.Nat.Bits.{bit_at_not, bit_at-trailing_zeros, bit_at-zero, ones_shl, and_pow}
use Rattle.std.proofs.lemmas.Nat.Bits.{same_from_bits_below, bit_at_or, bit_at_ones, bit_at_ones_above, ones_shr}
use Rattle.std.proofs.lemmas.Nat.{one_shl, pow_pos, and_le_l}
use borrow.Enum.Arm.{by_way}
use Rattle.bit_set.specs.Bits.{bit, lies_in, IsLowestBit}

pub bit_of_one : (word i : ℕ) → bit_at word i ≡ 1 → bit word i ≡ true
unfolding bit
bit_of_one word i e = eq-eqb (bit_at word i) 1 e

pub bit_of_zero : (word i : ℕ) → bit_at word i ≡ 0 → bit word i ≡ false
unfolding bit
bit_of_zero word i e = ne_eqb (bit_at word i) 1 (λ one. omega arith)

pub bit_alike : (a b i : ℕ) → bit_at a i ≡ bit_at b i → bit a i ≡ bit b i
unfolding bit
bit_alike a b i e = ap (λ n. eqb n 1) e

bit_at_from : (word i : ℕ) (b : Bool) → eqb (bit_at word i) 1 ≡ b → bit_at word i ≡ cond b 1 0
bit_at_from word i true e = eqb-true (bit_at word i) 1 e
bit_at_from word i false e =
    let other = eqb-false (bit_at word i) 1 e in
    let small = bit_at-lt word i in
    omega arith

-- what the bit is says what it is as a number
pub bit_at_is : (word i : ℕ) → bit_at word i ≡ cond (bit word i) 1 0
unfolding bit
bit_at_is word i = bit_at_from word i (eqb (bit_at word i) 1) refl

-- words with the same bits are equal
pub same_word : (a b : ℕ) → a < 2 ^ 64 → b < 2 ^ 64 → ((i : ℕ) → i < 64 → bit a i ≡ bit b i) → a ≡ b
same_word a b fa fb same =
    same_from_bits_below 64 a b fa fb (λ i lt. bit_at_is a i ∙ ap (λ t. cond t 1 0) (same i lt)
    ∙ sym (bit_at_is b i))

abbrev pub high_of : ℕ → ℕ → ℕ
high_of word from = bit_and word ((2 ^ 64 - 1) * 2 ^ from % 2 ^ 64)

-- the bits from a place on are those of the word, and there are none below it
high_inside : (word from i : ℕ) → from < 64 → from ≤ i → i < 64 → bit_at (high_of word from) i ≡ bit_at word i
high_inside word from i lt le within =
    let mask = ones_shl 64 from (omega arith) in
    let one = bit_at_mask_inside from 64 i le within in
    let small = bit_at-lt word i in
    ap (λ m. bit_at (bit_and word m) i) mask ∙ bit_at_and word (2 ^ 64 - 2 ^ from) i
    ∙ ap (min (bit_at word i)) one ∙ omega arith

high_below : (word from i : ℕ) → from < 64 → i < from → bit_at (high_of word from) i ≡ 0
high_below word from i lt under =
    let mask = ones_shl 64 from (omega arith) in
    ap (λ m. bit_at (bit_and word m) i) mask ∙ bit_at_and word (2 ^ 64 - 2 ^ from) i
    ∙ ap (min (bit_at word i)) (bit_at_mask_below from 64 i under) ∙ omega arith

pub none_high : (word from : ℕ) → from < 64 → high_of word from ≡ 0 → (i : ℕ) → from ≤ i → i < 64
    → bit word i ≡ false
none_high word from lt e = λ i le within.
    bit_of_zero word i (sym (high_inside word from i lt le within) ∙ ap (λ w. bit_at w i) e ∙ bit_at-zero i)

pub lowest_high : (word from : ℕ) → from < 64 → word < 2 ^ 64 → high_of word from ≢ 0
    → IsLowestBit word from (trailing_zeros w64 (high_of word from))
lowest_high word from lt fits some =
    let small : high_of word from < 2 ^ 64 =
    omega (arith, and_le_l word ((2 ^ 64 - 1) * 2 ^ from % 2 ^ 64), fits) in
    let lowest = bit_at-trailing_zeros w64 (high_of word from) (omega arith) small in
    let at : ℕ = trailing_zeros w64 (high_of word from) in
    let within : at < 64 = lowest.0 in
    let up : from ≤ at = cases_from word from at lt lowest.1 in
    record {
      within = within;
      from_on = up;
      set = bit_of_one word at (sym (high_inside word from at lt up within) ∙ lowest.1);
      first = λ i le under. bit_of_zero word i (sym (high_inside word from i lt le (omega arith))
          ∙ lowest.2 i under);
    }
  where
    cases_from : (word from at : ℕ) → from < 64 → bit_at (high_of word from) at ≡ 1 → from ≤ at
    cases_from word from at lt one =
        by_way (cases_lt at from) (λ under. absurd (omega (arith, high_below word from at lt under, one)))
        (λ up. up)

product_test : (b n : ℕ) → b < 2 → 0 < n → not (eqb (b * n) 0) ≡ eqb b 1
product_test b n small some =
    by_way (cases_eq b 1)
    (λ one. let up : (b * n) ≢ 0 = λ e. absurd (omega (arith, ap (λ x. x * n) one, e, some)) in
    ap not (ne_eqb (b * n) 0 up) ∙ sym (eq-eqb b 1 one))
    (λ other. let zero : b ≡ 0 = omega arith in ap not (eq-eqb (b * n) 0 (ap (λ x. x * n) zero ∙ omega arith))
    ∙ sym (ne_eqb b 1 other))

-- the test of one bit by a mask
pub tested : (word at : ℕ) → at < 64 → not (eqb (bit_and word (1 * 2 ^ at % 2 ^ 64)) 0) ≡ bit word at
unfolding bit
tested word at lt =
    ap (λ m. not (eqb (bit_and word m) 0)) (one_shl at 64 lt)
    ∙ ap (λ n. not (eqb n 0)) (and_pow word at)
    ∙ product_test (bit_at word at) (2 ^ at) (bit_at-lt word at) (pow_pos at)

-- ---- a run of bits

abbrev pub run_of : ℕ → ℕ → ℕ
run_of from end = bit_and ((2 ^ 64 - 1) * 2 ^ from % 2 ^ 64) ((2 ^ 64 - 1) / 2 ^ (64 - end))

-- a bit of a run as a number
run_at : (from end i : ℕ) → from < end → end ≤ 64 → i < 64 → bit_at (run_of from end) i ≡ cond (lies_in from end i) 1 0
run_at from end i some within lt =
    bit_at_and ((2 ^ 64 - 1) * 2 ^ from % 2 ^ 64) ((2 ^ 64 - 1) / 2 ^ (64 - end)) i
    ∙ ap (λ n. min n (bit_at ((2 ^ 64 - 1) / 2 ^ (64 - end)) i)) high ∙ ap (min (cond (leb from i) 1 0)) low
    ∙ both (leb from i) (ltb i end)
  where
    high : bit_at ((2 ^ 64 - 1) * 2 ^ from % 2 ^ 64) i ≡ cond (leb from i) 1 0
    high =
        ap (λ n. bit_at n i) (ones_shl 64 from (omega (arith, some, within)))
        ∙ by_way (cases_lt i from)
        (λ below. bit_at_mask_below from 64 i below ∙ sym (ap (λ b. cond b 1 0) (lt-leb from i below)))
        (λ up. bit_at_mask_inside from 64 i up lt ∙ sym (ap (λ b. cond b 1 0) (le-leb from i up)))

    low : bit_at ((2 ^ 64 - 1) / 2 ^ (64 - end)) i ≡ cond (ltb i end) 1 0
    low =
        let left : 64 - (64 - end) ≡ end = omega (arith, within) in
        ap (λ n. bit_at n i) (ones_shr 64 (64 - end) (omega arith) ∙ ap (λ n. 2 ^ n - 1) left)
        ∙ by_way (cases_lt i end)
        (λ under. bit_at_ones end i under ∙ sym (ap (λ b. cond b 1 0) (lt-ltb i end under)))
        (λ past. bit_at_ones_above end i past ∙ sym (ap (λ b. cond b 1 0) (le-ltb i end past)))

    both : (a b : Bool) → min (cond a 1 0) (cond b 1 0) ≡ cond (a && b) 1 0
    both true true = refl
    both true false = refl
    both false true = refl
    both false false = refl

pub run_set : (word from end i : ℕ) → from < end → end ≤ 64 → i < 64
    → bit (bit_or word (run_of from end)) i ≡ (bit word i || lies_in from end i)
unfolding bit
run_set word from end i some within lt =
    ap (λ n. eqb n 1) (bit_at_or word (run_of from end) i ∙ ap (max (bit_at word i)) (run_at from end i some within lt)
    ∙ ap (λ n. max n (cond (lies_in from end i) 1 0)) (bit_at_is word i))
    ∙ either (bit word i) (lies_in from end i)
  where
    either : (a b : Bool) → eqb (max (cond a 1 0) (cond b 1 0)) 1 ≡ (a || b)
    either true true = refl
    either true false = refl
    either false true = refl
    either false false = refl

-- ---- the other word, whose bits are one where those of the word are zero

other_bit : (word i : ℕ) → word < 2 ^ 64 → i < 64 → bit_at (bit_not w64 word) i ≡ 1 - bit_at word i
other_bit word i fits lt = bit_at_not w64 word i fits lt

pub one_where_none : (word i : ℕ) → word < 2 ^ 64 → i < 64 → bit (bit_not w64 word) i ≡ false → bit word i ≡ true
one_where_none word i fits lt none =
    bit_of_one word i
    (omega (arith, other_bit word i fits lt, bit_at-lt word i, bit_at_is (bit_not w64 word) i ∙ ap (λ b. cond b 1 0) none))

pub none_where_one : (word i : ℕ) → word < 2 ^ 64 → i < 64 → bit (bit_not w64 word) i ≡ true → bit word i ≡ false
none_where_one word i fits lt one =
    bit_of_zero word i
    (omega (arith, other_bit word i fits lt, bit_at-lt word i, bit_at_is (bit_not w64 word) i ∙ ap (λ b. cond b 1 0) one))
