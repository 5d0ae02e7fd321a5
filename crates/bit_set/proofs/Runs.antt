-- Runs of marks.
use Rattle.std.proofs.Common.{◌≡◌, ◌≢◌, ℕ, ◌+◌, ◌-◌, ◌*◌, ◌/◌, ◌%◌, ◌^◌, ◌<◌, ◌≤◌, true, false, ltb, leb, List}
use Rattle.std.proofs.Common.{length, get_or, set, sym, ap, ◌∙◌, arith}
use Rattle.std.specs.Prelude.{◌||◌}
use Rattle.std.proofs.lemmas.Bool.{cases_lt, cases_eq, lt-ltb, le-ltb, le-leb, lt-leb, and_from, and_left, and_right}
use Rattle.std.proofs.lemmas.Bool.{or_left, or_right}
use Rattle.std.proofs.lemmas.List.{length-set, get_or_past, get_or-set_same, get_or-set_other}
use Rattle.std.proofs.Math.Bool.{or-false}
use borrow.Enum.Arm.{by_way}
use Rattle.bit_set.specs.Bits.{bit, bits_of, lies_in}
use Rattle.bit_set.proofs.Marks.{length-bits_of, get_or-bits_of}
use Rattle.bit_set.proofs.Words.{same_word}

pub lies_inside : (first end k : ℕ) → first ≤ k → k < end → lies_in first end k ≡ true
lies_inside first end k le lt = and_from (leb first k) (ltb k end) (le-leb first k le) (lt-ltb k end lt)

pub lies_before : (first end k : ℕ) → k < first → lies_in first end k ≡ false
lies_before first end k lt = and_left (leb first k) (ltb k end) (lt-leb first k lt)

pub lies_behind : (first end k : ℕ) → end ≤ k → lies_in first end k ≡ false
lies_behind first end k le = and_right (leb first k) (ltb k end) (le-ltb k end le)

-- one word is written, with a run in it set
module _ (words : List ℕ) (word from end : ℕ) where
  pub run_in_word : from < end → end ≤ from / 64 * 64 + 64 → end ≤ 64 * length words
      → ((i : ℕ) → i < 64
      → bit word i ≡ (bit (get_or words (from / 64) 0) i || lies_in (from % 64) (end - from / 64 * 64) i))
      → (k : ℕ) → get_or (bits_of (set words (from / 64) word)) k false
      ≡ (get_or (bits_of words) k false || lies_in from end k)
  run_in_word some near within is k =
      by_way (cases_lt k (64 * length words))
      (λ under. by_way (cases_eq (k / 64) (from / 64)) (λ e. here under e) (λ ne. elsewhere under ne))
      (λ past. get_or_past (bits_of (set words (from / 64) word)) k false
      (omega (arith, past, length-bits_of (set words (from / 64) word), length-set words (from / 64) word))
      ∙ sym (ap (λ b. b || lies_in from end k)
      (get_or_past (bits_of words) k false (omega (arith, past, length-bits_of words)))
      ∙ lies_behind from end k (omega (arith, past, within))))
    where
      now : k < 64 * length words → get_or (bits_of (set words (from / 64) word)) k false
          ≡ bit (get_or (set words (from / 64) word) (k / 64) 0) (k % 64)
      now under =
          get_or-bits_of (set words (from / 64) word) k false
          (omega (arith, under, length-set words (from / 64) word))

      alike : k / 64 ≡ from / 64 → lies_in (from % 64) (end - from / 64 * 64) (k % 64) ≡ lies_in from end k
      alike e =
          by_way (cases_lt k from)
          (λ low. lies_before (from % 64) (end - from / 64 * 64) (k % 64) (omega (arith, low, e))
          ∙ sym (lies_before from end k low))
          (λ ge. by_way (cases_lt k end)
          (λ lt. lies_inside (from % 64) (end - from / 64 * 64) (k % 64) (omega (arith, ge, e))
          (omega (arith, lt, e)) ∙ sym (lies_inside from end k ge lt))
          (λ le. lies_behind (from % 64) (end - from / 64 * 64) (k % 64) (omega (arith, le, e, some))
          ∙ sym (lies_behind from end k le)))

      here : k < 64 * length words → k / 64 ≡ from / 64 → get_or (bits_of (set words (from / 64) word)) k false
          ≡ (get_or (bits_of words) k false || lies_in from end k)
      here under e =
          now under
          ∙ ap (λ w. bit w (k % 64)) (ap (λ w. get_or (set words (from / 64) word) w 0) e
          ∙ get_or-set_same words (from / 64) word 0 (omega (arith, under, e)))
          ∙ is (k % 64) (omega arith)
          ∙ ap (λ w. bit (get_or words w 0) (k % 64) || lies_in (from % 64) (end - from / 64 * 64) (k % 64))
          (sym e)
          ∙ ap (λ b. bit (get_or words (k / 64) 0) (k % 64) || b) (alike e)
          ∙ ap (λ b. b || lies_in from end k) (sym (get_or-bits_of words k false under))

      elsewhere : k < 64 * length words → (k / 64) ≢ (from / 64)
          → get_or (bits_of (set words (from / 64) word)) k false
          ≡ (get_or (bits_of words) k false || lies_in from end k)
      elsewhere under ne =
          now under ∙ ap (λ w. bit w (k % 64)) (get_or-set_other words (from / 64) (k / 64) word 0 ne)
          ∙ sym (get_or-bits_of words k false under)
          ∙ sym (or-false (get_or (bits_of words) k false))
          ∙ ap (λ b. get_or (bits_of words) k false || b)
          (sym (by_way (cases_lt k from) (λ low. lies_before from end k low)
          (λ ge. lies_behind from end k (omega (arith, ge, ne, near, some)))))

-- the bits of a run in a word are set exactly where setting them changes nothing
module _ (words : List ℕ) (word from end : ℕ) where
  pub run_is_there : from < end → end ≤ from / 64 * 64 + 64 → end ≤ 64 * length words
      → word < 2 ^ 64 → get_or words (from / 64) 0 < 2 ^ 64
      → ((i : ℕ) → i < 64
      → bit word i ≡ (bit (get_or words (from / 64) 0) i || lies_in (from % 64) (end - from / 64 * 64) i))
      → (word ≡ get_or words (from / 64) 0
      → (k : ℕ) → from ≤ k → k < end → get_or (bits_of words) k false ≡ true)
      × (((k : ℕ) → from ≤ k → k < end → get_or (bits_of words) k false ≡ true)
      → word ≡ get_or words (from / 64) 0)
  run_is_there some near within fits was_fits is = (
    λ same k le lt. at k le lt
        ∙ (ap (λ w. bit w (k % 64)) (sym same) ∙ is (k % 64) (omega arith)
        ∙ or_right _ _ (lies_inside (from % 64) (end - from / 64 * 64) (k % 64) (omega (arith, le, lt, near))
        (omega (arith, le, lt, near)))),
    λ all. same_word word (get_or words (from / 64) 0) fits was_fits (λ i lt. is i lt
        ∙ by_way (cases_lt i (from % 64))
        (λ low. nothing i (lies_before (from % 64) (end - from / 64 * 64) i low))
        (λ ge. by_way (cases_lt i (end - from / 64 * 64))
        (λ under. or_left _ _ (here i lt ge under all) ∙ sym (here i lt ge under all))
        (λ over. nothing i (lies_behind (from % 64) (end - from / 64 * 64) i over)))),
  )
    where
      at : (k : ℕ) → from ≤ k → k < end
          → get_or (bits_of words) k false ≡ bit (get_or words (from / 64) 0) (k % 64)
      at k le lt =
          let quotient : k / 64 ≡ from / 64 = omega (arith, le, lt, near) in
          get_or-bits_of words k false (omega (arith, lt, within))
          ∙ ap (λ w. bit (get_or words w 0) (k % 64)) quotient

      nothing : (i : ℕ) → lies_in (from % 64) (end - from / 64 * 64) i ≡ false
          → (bit (get_or words (from / 64) 0) i || lies_in (from % 64) (end - from / 64 * 64) i)
          ≡ bit (get_or words (from / 64) 0) i
      nothing i none = ap (λ b. bit (get_or words (from / 64) 0) i || b) none ∙ or-false (bit (get_or words (from / 64) 0) i)

      here : (i : ℕ) → i < 64 → from % 64 ≤ i → i < end - from / 64 * 64
          → ((k : ℕ) → from ≤ k → k < end → get_or (bits_of words) k false ≡ true)
          → bit (get_or words (from / 64) 0) i ≡ true
      here i lt ge under all =
          let le : from ≤ from / 64 * 64 + i = omega (arith, ge) in
          let below : from / 64 * 64 + i < end = omega (arith, under) in
          let rest : (from / 64 * 64 + i) % 64 ≡ i = omega (arith, lt) in
          ap (bit (get_or words (from / 64) 0)) (sym rest) ∙ sym (at (from / 64 * 64 + i) le below)
          ∙ all (from / 64 * 64 + i) le below
