-- The marks that words of 64 bits stand for.
use Rattle.std.proofs.Common.{◌≡◌, ◌≢◌, ℕ, ◌+◌, ◌-◌, ◌*◌, ◌/◌, ◌%◌, ◌^◌, ◌<◌, ◌≤◌, Bool, true, false, cond}
use Rattle.std.proofs.Common.{ltb, List, length, get_or, set, replicate, Option, Some, None, IfSome, IfNone}
use Rattle.std.proofs.Common.{sym, ap, subst, ◌∙◌, arith}
use Rattle.std.specs.Prelude.{All}
use Rattle.std.proofs.lemmas.Bool.{cases_lt, cases_eq, cond-true, cond-false, lt-ltb, le-ltb}
use Rattle.std.proofs.lemmas.List.{get_or_past, length-set, length-replicate, get_or-set_same}
use Rattle.std.proofs.lemmas.List.{get_or-set_other, get_or-replicate, ext_get_or}
use Rattle.std.proofs.lemmas.List.FromFn.{length-map-range_with_len, get_or-map-range_with_len}
use Rattle.std.proofs.lemmas.Nat.Bits.{bit_at-zero}
use borrow.Enum.Arm.{by_way}
use Rattle.bit_set.specs.Bits.{bit, bits_of, IsLowestBit, IsNext, NoneMarked}
use Rattle.bit_set.proofs.Words.{bit_of_zero, same_word}

abbrev bit_in : List ℕ → ℕ → Bool
bit_in words k = bit (get_or words (k / 64) 0) (k % 64)

pub length-bits_of : (words : List ℕ) → length (bits_of words) ≡ 64 * length words
unfolding bits_of
length-bits_of words = length-map-range_with_len (bit_in words) 0 (64 * length words)

pub get_or-bits_of : (words : List ℕ) (k : ℕ) (d : Bool) → k < 64 * length words
    → get_or (bits_of words) k d ≡ bit (get_or words (k / 64) 0) (k % 64)
unfolding bits_of
get_or-bits_of words k d lt =
    get_or-map-range_with_len (bit_in words) 0 (64 * length words) k k d lt (omega arith)

-- a mark is a bit of its word
pub mark_in_word : (words : List ℕ) (at k : ℕ) → at < length words → k / 64 ≡ at
    → get_or (bits_of words) k false ≡ bit (get_or words at 0) (k % 64)
mark_in_word words at k lt e =
    get_or-bits_of words k false (omega (arith, lt, e)) ∙ ap (λ w. bit (get_or words w 0) (k % 64)) e

-- one bit of one word is written
pub bits_of-set : (words : List ℕ) (word at : ℕ) (mark : Bool) → at < 64 * length words
    → bit word (at % 64) ≡ mark
    → ((i : ℕ) → i < 64 → i ≢ at % 64 → bit word i ≡ bit (get_or words (at / 64) 0) i)
    → bits_of (set words (at / 64) word) ≡ set (bits_of words) at mark
bits_of-set words word at mark lt here others =
    ext_get_or false _ _ same_length
    (λ k under. at_place k
    (omega (arith, under, length-bits_of (set words (at / 64) word), length-set words (at / 64) word)))
  where
    same_length : length (bits_of (set words (at / 64) word)) ≡ length (set (bits_of words) at mark)
    same_length =
        omega (
          arith,
          length-bits_of (set words (at / 64) word),
          length-set words (at / 64) word,
          length-set
              (bits_of words) at mark,
          length-bits_of words,
        )

    in_set : (k : ℕ) → k < 64 * length words
        → get_or (bits_of (set words (at / 64) word)) k false ≡ bit
        (get_or (set words (at / 64) word) (k / 64) 0) (k % 64)
    in_set k under =
        get_or-bits_of (set words (at / 64) word) k false
        (omega (arith, under, length-set words (at / 64) word))

    read_here : (k : ℕ) → k / 64 ≡ at / 64 → get_or (set words (at / 64) word) (k / 64) 0 ≡ word
    read_here k e = ap (λ w. get_or (set words (at / 64) word) w 0) e
        ∙ get_or-set_same words (at / 64) word 0 (omega arith)

    at_place : (k : ℕ) → k < 64 * length words
        → get_or (bits_of (set words (at / 64) word)) k false ≡ get_or (set (bits_of words) at mark) k false
    at_place k under =
        by_way (cases_eq k at)
        (λ e. in_set k under ∙ ap (λ w. bit w (k % 64)) (read_here k (ap (λ n. n / 64) e))
        ∙ ap (λ n. bit word (n % 64)) e ∙ here
        ∙ sym (ap (λ n. get_or (set (bits_of words) at mark) n false) e
        ∙ get_or-set_same (bits_of words) at mark false (omega (arith, lt, length-bits_of words))))
        (λ ne. in_set k under
        ∙ by_way (cases_eq (k / 64) (at / 64))
        (λ e. ap (λ w. bit w (k % 64)) (read_here k e)
        ∙ others (k % 64) (omega arith) (λ same. ne (omega (arith, e, same)))
        ∙ ap (λ w. bit (get_or words w 0) (k % 64)) (sym e))
        (λ off. ap (λ w. bit w (k % 64)) (get_or-set_other words (at / 64) (k / 64) word 0 off))
        ∙ sym (get_or-set_other (bits_of words) at k mark false ne ∙ get_or-bits_of words k false under))

-- words of zeros have no marks
pub bits_of-zeros : (n : ℕ) → bits_of (replicate n 0) ≡ replicate (64 * n) false
bits_of-zeros n =
    ext_get_or false _ _ same_length
    (λ k under. at_place k
    (omega (arith, under, length-bits_of (replicate n 0), length-replicate {A = ℕ} n 0)))
  where
    same_length : length (bits_of (replicate n 0)) ≡ length (replicate (64 * n) false)
    same_length =
        omega (
          arith,
          length-bits_of (replicate n 0),
          length-replicate {A = ℕ} n 0,
          length-replicate {A =
              Bool} (64 * n) false,
        )

    at_place : (k : ℕ) → k < 64 * n
        → get_or (bits_of (replicate n 0)) k false ≡ get_or (replicate (64 * n) false) k false
    at_place k under =
        get_or-bits_of (replicate n 0) k false (omega (arith, under, length-replicate {A = ℕ} n 0))
        ∙ ap (λ w. bit w (k % 64)) (get_or-replicate n (k / 64) 0 0 (omega arith))
        ∙ bit_of_zero 0 (k % 64) (bit_at-zero (k % 64))
        ∙ sym (get_or-replicate (64 * n) k false false under)

-- words of 64 bits with the same marks are equal
pub same_words : (a b : List ℕ) → All (λ w. w < 2 ^ 64) a → All (λ w. w < 2 ^ 64) b → bits_of a ≡ bits_of b
    → a ≡ b
same_words a b fa fb e = ext_get_or 0 a b len at
  where
    len : length a ≡ length b
    len = omega (arith, length-bits_of a, length-bits_of b, ap length e)

    bits_alike : (w i : ℕ) → w < length a → i < 64 → bit (get_or a w 0) i ≡ bit (get_or b w 0) i
    bits_alike w i lt within =
        let quotient : (w * 64 + i) / 64 ≡ w = omega arith in
        let rest : (w * 64 + i) % 64 ≡ i = omega arith in
        let under : w * 64 + i < 64 * length a = omega arith in
        let under_b : w * 64 + i < 64 * length b = omega (arith, under, len) in
        sym (ap (λ n. bit (get_or a n 0) ((w * 64 + i) % 64)) quotient ∙ ap (bit (get_or a w 0)) rest)
        ∙ sym (get_or-bits_of a (w * 64 + i) false under)
        ∙ ap (λ l. get_or l (w * 64 + i) false) e
        ∙ get_or-bits_of b (w * 64 + i) false under_b
        ∙ ap (λ n. bit (get_or b n 0) ((w * 64 + i) % 64)) quotient ∙ ap (bit (get_or b w 0)) rest

    at : (w : ℕ) → w < length a → get_or a w 0 ≡ get_or b w 0
    at w lt =
        same_word (get_or a w 0) (get_or b w 0) (fa w 0 lt) (fb w 0 (omega (arith, lt, len)))
        (λ i within. bits_alike w i lt within)

-- ---- the next mark

-- no mark below a word, and none in it below a bit
none_up_to : (words : List ℕ) (from w s b : ℕ) → w < length words → b ≤ 64
    → NoneMarked (bits_of words) from (w * 64 + s)
    → ((i : ℕ) → s ≤ i → i < b → bit (get_or words w 0) i ≡ false)
    → NoneMarked (bits_of words) from (w * 64 + b)
none_up_to words from w s b lt most below_it in_it = λ k le under.
    by_way (cases_lt k (w * 64 + s))
    (λ low. below_it k le low)
    (λ high.
    let rest : k % 64 ≡ k - w * 64 = omega arith in
    let quotient : k / 64 ≡ w = omega arith in
    let s_le : s ≤ k % 64 = omega arith in
    let b_lt : k % 64 < b = omega arith in
    get_or-bits_of words k false (omega arith) ∙ ap (λ n. bit (get_or words n 0) (k % 64)) quotient
    ∙ in_it (k % 64) s_le b_lt)

pub none_in_word : (words : List ℕ) (from w s : ℕ) → w < length words
    → NoneMarked (bits_of words) from (w * 64 + s)
    → ((i : ℕ) → s ≤ i → i < 64 → bit (get_or words w 0) i ≡ false)
    → NoneMarked (bits_of words) from (w * 64 + 64)
none_in_word words from w s lt below_it in_it = none_up_to words from w s 64 lt (omega arith) below_it in_it

abbrev found_at : ℕ → ℕ → Option ℕ
found_at at end = cond (ltb at end) (Some at) None

pub next_found : (words : List ℕ) (from w s b end : ℕ) → w < length words → from ≤ w * 64 + s
    → NoneMarked (bits_of words) from (w * 64 + s) → IsLowestBit (get_or words w 0) s b
    → IfSome (found_at (w * 64 + b) end) (λ at. IsNext (bits_of words) from end at)
next_found words from w s b end lt le below_it lowest =
    by_way (cases_lt (w * 64 + b) end)
    (λ yes. subst (λ o. IfSome o (λ at. IsNext (bits_of words) from end at))
    (sym (cond-true (ltb (w * 64 + b) end) (Some (w * 64 + b)) None (lt-ltb _ _ yes)))
    (record {
      from_on = omega (arith, le, lowest.from_on);
      below = yes;
      marked = at_bit lowest.within lowest.set;
      first = none_up_to words from w s b lt (omega (arith, lowest.within)) below_it lowest.first;
    }))
    (λ over. subst (λ o. IfSome o (λ at. IsNext (bits_of words) from end at))
    (sym (cond-false (ltb (w * 64 + b) end) (Some (w * 64 + b)) None (le-ltb _ _ over))) tt)
  where
    at_bit : b < 64 → bit (get_or words w 0) b ≡ true → get_or (bits_of words) (w * 64 + b) false ≡ true
    at_bit within one =
        let quotient : (w * 64 + b) / 64 ≡ w = omega arith in
        let rest : (w * 64 + b) % 64 ≡ b = omega arith in
        get_or-bits_of words (w * 64 + b) false (omega arith)
        ∙ ap (λ n. bit (get_or words n 0) ((w * 64 + b) % 64)) quotient ∙ ap (bit (get_or words w 0)) rest
        ∙ one

pub next_none : (words : List ℕ) (from w s b end : ℕ) → w < length words
    → NoneMarked (bits_of words) from (w * 64 + s) → IsLowestBit (get_or words w 0) s b
    → IfNone (found_at (w * 64 + b) end) (NoneMarked (bits_of words) from end)
next_none words from w s b end lt below_it lowest =
    by_way (cases_lt (w * 64 + b) end)
    (λ yes. subst (λ o. IfNone o (NoneMarked (bits_of words) from end))
    (sym (cond-true (ltb (w * 64 + b) end) (Some (w * 64 + b)) None (lt-ltb _ _ yes))) tt)
    (λ over. subst (λ o. IfNone o (NoneMarked (bits_of words) from end))
    (sym (cond-false (ltb (w * 64 + b) end) (Some (w * 64 + b)) None (le-ltb _ _ over)))
    (λ k le under. none_up_to words from w s b lt (omega (arith, lowest.within)) below_it lowest.first k le
    (omega (arith, over, under))))

-- where no place up to another one is marked, the next one from there on is the next one
pub found_behind : (marks : List Bool) (from first end : ℕ) (o : Option ℕ) → from ≤ first
    → NoneMarked marks from first → IfSome o (λ at. IsNext marks first end at)
    → IfSome o (λ at. IsNext marks from end at)
found_behind marks from first end None le none found = tt
found_behind marks from first end (Some at) le none found =
    record {
      from_on = omega (arith, le, found.from_on);
      below = found.below;
      marked = found.marked;
      first = λ k ge lt. by_way (cases_lt k first) (λ low. none k ge low) (λ high. found.first k high lt);
    }

pub none_behind : (marks : List Bool) (from first end : ℕ) (o : Option ℕ) → NoneMarked marks from first
    → IfNone o (NoneMarked marks first end) → IfNone o (NoneMarked marks from end)
none_behind marks from first end (Some at) none more = tt
none_behind marks from first end None none more = λ k ge lt.
    by_way (cases_lt k first) (λ low. none k ge low) (λ high. more k high lt)

-- a list of one element again and again has that element, or none, at each place, as an empty set has no member
pub blank_at : {X : Type 0} (n k : ℕ) (blank : X) → get_or (replicate n blank) k blank ≡ blank
blank_at n k blank =
    by_way (cases_lt k n)
    (λ low. get_or-replicate n k blank blank low)
    (λ high. get_or_past (replicate n blank) k blank (omega (arith, length-replicate n blank, high)))
