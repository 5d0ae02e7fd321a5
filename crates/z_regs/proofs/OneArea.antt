-- Bytes that lie in one area, as they are seen.
use Rattle.std.proofs.Common.{◌≡◌, ℕ, ◌+◌, ◌-◌, ◌%◌, ◌<◌, ◌≤◌, true, List, length, drop, get_or, Option, None, Some, ◌⊎◌, inl, inr, refl, sym, ap, ◌∙◌, arith}
use Rattle.std.specs.Prelude.{nat_le, nat_lt}
use Rattle.std.proofs.lemmas.Bool.{cases_lt, and_parts, ltb-true}
use Rattle.std.proofs.lemmas.List.{ext_get_or, get_or-drop, get_or-take, length-take-le, length-drop}
use Rattle.z_regs.specs.Prefix.{storage_size, area_size, is_prefix, is_accessible, absolute_of}
use Rattle.z_regs.specs.Seen.{seen_by}
use Rattle.z_regs.specs.Written.{range_at, written}
use Rattle.z_regs.proofs.Exchange.{area, absolute_twice, absolute_within, length-seen, seen_at, to_place}
use Rattle.z_regs.proofs.MovedBytes.{along}
use Rattle.z_regs.proofs.Writes.{length-written, below, above, inside}

-- a byte of a range
pub in_range : (s : List ℕ) (a n k : ℕ) → k < n → get_or (range_at s a n) k 0 ≡ get_or s (a + k) 0
in_range s a n k h = get_or-take n (drop a s) k 0 h ∙ get_or-drop a s k 0

pub length-range_at : (s : List ℕ) (a n : ℕ) → a + n ≤ length s → length (range_at s a n) ≡ n
length-range_at s a n h = length-take-le n (drop a s) (omega (arith, length-drop a s))

-- absolute addresses go on in an area as real ones do
pub goes_on : (prefix : Option ℕ) (a k : ℕ) → is_prefix prefix ≡ true → a % 8192 + k < 8192 →
    absolute_of prefix (a + k) ≡ absolute_of prefix a + k
goes_on None a k h i = refl
goes_on (Some p) a k h i = along p a k (area p h) i

-- a byte that a CPU may reach lies in storage
pub accessible_within : (prefix : Option ℕ) (a : ℕ) → is_accessible prefix a ≡ true → a < storage_size
accessible_within None a h = ltb-true a storage_size (and_parts (nat_le area_size a) (nat_lt a storage_size) h).1
accessible_within (Some p) a h = ltb-true a storage_size h

-- the end of such bytes too lies in storage
pub end_within : (prefix : Option ℕ) (a n : ℕ) → is_prefix prefix ≡ true → a + n ≤ storage_size → 1 ≤ n →
    a % 8192 + n ≤ 8192 → absolute_of prefix a + n ≤ storage_size
end_within prefix a n h size some one =
    let last : absolute_of prefix (a + (n - 1)) ≡ absolute_of prefix a + (n - 1) =
    goes_on prefix a (n - 1) h (omega arith) in
    let in_storage : absolute_of prefix (a + (n - 1)) < storage_size =
    absolute_within prefix (a + (n - 1)) h (omega arith) in
    omega (arith, last, in_storage)

-- they are seen as they lie in storage
pub range_seen : (prefix : Option ℕ) (s : List ℕ) (a n : ℕ) → is_prefix prefix ≡ true →
    length s ≡ storage_size → a + n ≤ storage_size → 1 ≤ n → a % 8192 + n ≤ 8192 →
    range_at s (absolute_of prefix a) n ≡ range_at (seen_by prefix s) a n
range_seen prefix s a n h size ends some one =
    let seen : length (seen_by prefix s) ≡ storage_size = length-seen prefix s h size in
    let end : absolute_of prefix a + n ≤ storage_size = end_within prefix a n h ends some one in
    let left : length (range_at s (absolute_of prefix a) n) ≡ n =
    length-range_at s (absolute_of prefix a) n (omega arith) in
    let right : length (range_at (seen_by prefix s) a n) ≡ n =
    length-range_at (seen_by prefix s) a n (omega arith) in
    ext_get_or 0 _ _ (left ∙ sym right) (λ i k.
    let l : i < n = omega arith in
    in_range s (absolute_of prefix a) n i l
    ∙ to_place s _ _ (sym (goes_on prefix a i h (omega arith)))
    ∙ sym (seen_at prefix s (a + i) h size (omega arith))
    ∙ sym (in_range (seen_by prefix s) a n i l))

-- an address whose absolute one lies among theirs lies among them
among : (prefix : Option ℕ) (a i j : ℕ) → is_prefix prefix ≡ true → a % 8192 + j < 8192 →
    absolute_of prefix i ≡ absolute_of prefix a + j → i ≡ a + j
among prefix a i j h one e =
    sym (absolute_twice prefix i h) ∙ ap (absolute_of prefix) (e ∙ sym (goes_on prefix a j h one))
    ∙ absolute_twice prefix (a + j) h

module _ (prefix : Option ℕ) (s bytes : List ℕ) (a : ℕ) (h : is_prefix prefix ≡ true)
    (size : length s ≡ storage_size) (ends : a + length bytes ≤ storage_size) (some : 1 ≤ length bytes)
    (one : a % 8192 + length bytes ≤ 8192) where
  end : absolute_of prefix a + length bytes ≤ storage_size
  end = end_within prefix a (length bytes) h ends some one

  new_size : length (written s (absolute_of prefix a) bytes) ≡ storage_size
  new_size = length-written s (absolute_of prefix a) bytes (omega (arith, end, size)) ∙ size

  seen_size : length (seen_by prefix s) ≡ storage_size
  seen_size = length-seen prefix s h size

  -- beside the bytes it is as it was
  beside : (i : ℕ) → i < storage_size → (i < a) ⊎ (a + length bytes ≤ i) →
      get_or (written s (absolute_of prefix a) bytes) (absolute_of prefix i) 0 ≡
      get_or s (absolute_of prefix i) 0
  beside i k o = elim (cases_lt (absolute_of prefix i) (absolute_of prefix a)) [
    | inl less ↦ below s (absolute_of prefix a) bytes (absolute_of prefix i) (omega (arith, end, size)) less
    | inr more ↦ elim (cases_lt (absolute_of prefix i) (absolute_of prefix a + length bytes)) [
      | inr beyond ↦ above s (absolute_of prefix a) bytes (absolute_of prefix i) (omega (arith, end, size)) beyond
      | inl less ↦
          let j = absolute_of prefix i - absolute_of prefix a in
          let e : i ≡ a + j = among prefix a i j h (omega arith) (omega arith) in
          absurd (omega (arith, e, o))
    ]
  ]

  -- bytes written there are written as they are seen
  pub written_seen : seen_by prefix (written s (absolute_of prefix a) bytes) ≡
      written (seen_by prefix s) a bytes
  written_seen =
      let left : length (seen_by prefix (written s (absolute_of prefix a) bytes)) ≡ storage_size =
      length-seen prefix _ h new_size in
      let right : length (written (seen_by prefix s) a bytes) ≡ storage_size =
      length-written (seen_by prefix s) a bytes (omega (arith, seen_size)) ∙ seen_size in
      ext_get_or 0 _ _ (left ∙ sym right) (λ i k.
      let l : i < storage_size = omega arith in
      seen_at prefix (written s (absolute_of prefix a) bytes) i h new_size l
      ∙ elim (cases_lt i a) [
        | inl less ↦
            beside i l (inl less) ∙ sym (seen_at prefix s i h size l)
            ∙ sym (below (seen_by prefix s) a bytes i (omega (arith, seen_size)) less)
        | inr more ↦ elim (cases_lt i (a + length bytes)) [
          | inr beyond ↦
              beside i l (inr beyond) ∙ sym (seen_at prefix s i h size l)
              ∙ sym (above (seen_by prefix s) a bytes i (omega (arith, seen_size)) beyond)
          | inl within ↦
              let j : i ≡ a + (i - a) = omega arith in
              let moved : absolute_of prefix i ≡ absolute_of prefix a + (i - a) =
              ap (absolute_of prefix) j ∙ goes_on prefix a (i - a) h (omega arith) in
              to_place (written s (absolute_of prefix a) bytes) _ _ moved
              ∙ inside s (absolute_of prefix a) bytes (i - a) (omega (arith, end, size)) (omega arith)
              ∙ sym (inside (seen_by prefix s) a bytes (i - a) (omega (arith, seen_size)) (omega arith))
              ∙ to_place (written (seen_by prefix s) a bytes) _ _ (sym j)
        ]
      ])
