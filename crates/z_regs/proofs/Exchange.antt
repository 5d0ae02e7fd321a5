-- The exchange of two areas of storage, address by address and as a list.
use Rattle.std.proofs.Common.{◌≡◌, ℕ, ◌+◌, ◌-◌, ◌%◌, ◌<◌, ◌≤◌, true, List, ◌++◌, length, take, drop, get_or, set, Option, None, Some, ◌⊎◌, inl, inr, ◌≢◌, refl, ap, sym, ◌∙◌, arith, length-append, length-drop}
use Rattle.std.specs.Prelude.{slice_range}
use Rattle.std.proofs.lemmas.Bool.{cases_lt}
use Rattle.std.proofs.lemmas.Bool.Decides.{nat_tests}
use Rattle.std.proofs.lemmas.Grind.{get_or-set_at}
use Rattle.std.proofs.lemmas.List.{ext_get_or, get_or-append_right, get_or_append_left, get_or-drop, get_or-take, get_or-set_other, length-set, length-take-le}
use Rattle.z_regs.specs.Prefix.{storage_size, is_prefix, absolute_of}
use Rattle.z_regs.specs.Seen.{seen_by}
use Rattle.z_regs.specs.Absolute.{to_edge}

-- what the test of a prefix says
pub record IsArea (p : ℕ) : Type 0 where
  pub aligned : p % 8192 ≡ 0
  pub low : 8192 ≤ p
  pub high : p ≤ 1040384

pub area : (p : ℕ) → is_prefix (Some p) ≡ true → IsArea p
area p h = record {
  aligned = grind (arith, nat_tests);
  low = grind (arith, nat_tests);
  high =
      grind (arith, nat_tests);
}

-- where an address goes
pub record Moves (p a b : ℕ) : Type 0 where
  pub first : a < 8192 → b ≡ a + p
  pub own : p ≤ a → a < p + 8192 → b + p ≡ a
  pub between : 8192 ≤ a → a < p → b ≡ a
  pub beyond : p + 8192 ≤ a → b ≡ a

pub moves : (p a : ℕ) → 8192 ≤ p → Moves p a (absolute_of (Some p) a)
moves p a low = record {
  first = λ h. grind (arith, nat_tests);
  own = λ h k. grind (arith, nat_tests);
  between = λ h k. grind (arith, nat_tests);
  beyond = λ h. grind (arith, nat_tests);
}

pub absolute_within : (prefix : Option ℕ) (a : ℕ) → is_prefix prefix ≡ true → a < storage_size →
    absolute_of prefix a < storage_size
absolute_within None a h k = k
absolute_within (Some p) a h k = let r = area p h in let m = moves p a r.low in
    grind (arith, r, m, cases_lt a 8192, cases_lt a p, cases_lt a (p + 8192))

-- the exchange is its own inverse
pub absolute_twice : (prefix : Option ℕ) (a : ℕ) → is_prefix prefix ≡ true →
    absolute_of prefix (absolute_of prefix a) ≡ a
absolute_twice None a h = refl
absolute_twice (Some p) a h =
    let r = area p h in let m = moves p a r.low in let n = moves p (absolute_of (Some p) a) r.low in
    grind (arith, r, m, n, cases_lt a 8192, cases_lt a p, cases_lt a (p + 8192))

-- ---- four lists one after the other

module _ (xs ys zs ws : List ℕ) where
  in_first : (a : ℕ) → a < length xs → get_or (xs ++ ys ++ zs ++ ws) a 0 ≡ get_or xs a 0
  in_first a h =
      get_or_append_left (xs ++ ys ++ zs) ws 0 a (omega (arith, length-append {A = ℕ}))
      ∙ get_or_append_left (xs ++ ys) zs 0 a (omega (arith, length-append {A = ℕ}))
      ∙ get_or_append_left xs ys 0 a h

  in_second : (n a : ℕ) → length xs ≡ n → n ≤ a → a < n + length ys →
      get_or (xs ++ ys ++ zs ++ ws) a 0 ≡ get_or ys (a - n) 0
  in_second n a e h k =
      get_or_append_left (xs ++ ys ++ zs) ws 0 a (omega (arith, length-append {A = ℕ}))
      ∙ get_or_append_left (xs ++ ys) zs 0 a (omega (arith, length-append {A = ℕ}))
      ∙ get_or-append_right xs ys n a 0 e h

  in_third : (n a : ℕ) → length xs + length ys ≡ n → n ≤ a → a < n + length zs →
      get_or (xs ++ ys ++ zs ++ ws) a 0 ≡ get_or zs (a - n) 0
  in_third n a e h k =
      get_or_append_left (xs ++ ys ++ zs) ws 0 a (omega (arith, length-append {A = ℕ}))
      ∙ get_or-append_right (xs ++ ys) zs n a 0 (length-append xs ys ∙ e) h

  in_fourth : (n a : ℕ) → length xs + length ys + length zs ≡ n → n ≤ a →
      get_or (xs ++ ys ++ zs ++ ws) a 0 ≡ get_or ws (a - n) 0
  in_fourth n a e h =
      get_or-append_right (xs ++ ys ++ zs) ws n a 0 (omega (arith, length-append {A = ℕ})) h

-- ---- storage as it is seen

length_piece : (s : List ℕ) (i j : ℕ) → i ≤ j → j ≤ length s → length (slice_range s i j) ≡ j - i
length_piece s i j h k = length-take-le (j - i) (drop i s) (omega (arith, length-drop {A = ℕ}))

piece_at : (s : List ℕ) (i j k : ℕ) → k < j - i → get_or (slice_range s i j) k 0 ≡ get_or s (i + k) 0
piece_at s i j k h = get_or-take (j - i) (drop i s) k 0 h ∙ get_or-drop i s k 0

pub to_place : (s : List ℕ) (a b : ℕ) → a ≡ b → get_or s a 0 ≡ get_or s b 0
to_place s a b e = ap (λ i. get_or s i 0) e

pub length-seen : (prefix : Option ℕ) (s : List ℕ) → is_prefix prefix ≡ true → length s ≡ storage_size →
    length (seen_by prefix s) ≡ storage_size
unfolding seen_by
length-seen None s h size = size
length-seen (Some p) s h size =
    let r = area p h in
    let own = length_piece s p (p + 8192) (omega arith) (omega arith) in
    let between = length_piece s 8192 p (omega arith) (omega arith) in
    let first = length-take-le 8192 s (omega arith) in
    omega (arith, length-append {A = ℕ}, length-drop (p + 8192) s)

-- a byte as it is seen is the byte of storage at the absolute address
pub seen_at : (prefix : Option ℕ) (s : List ℕ) (a : ℕ) → is_prefix prefix ≡ true → length s ≡ storage_size →
    a < storage_size → get_or (seen_by prefix s) a 0 ≡ get_or s (absolute_of prefix a) 0
unfolding seen_by
seen_at None s a h size k = refl
seen_at (Some p) s a h size k =
    let r = area p h in
    let m = moves p a r.low in
    let own = length_piece s p (p + 8192) (omega arith) (omega arith) in
    let between = length_piece s 8192 p (omega arith) (omega arith) in
    let first = length-take-le 8192 s (omega arith) in
    let xs = slice_range s p (p + 8192) in
    let ys = slice_range s 8192 p in
    let zs = take 8192 s in
    let ws = drop (p + 8192) s in
    elim (cases_lt a 8192) [
      | inl low ↦
          in_first xs ys zs ws a (omega arith) ∙ piece_at s p (p + 8192) a (omega arith)
          ∙ to_place s (p + a) _ (omega arith)
      | inr high ↦ elim (cases_lt a p) [
        | inl before ↦
            in_second xs ys zs ws 8192 a (omega arith) high (omega arith)
            ∙ piece_at s 8192 p (a - 8192) (omega arith) ∙ to_place s (8192 + (a - 8192)) _ (omega arith)
        | inr behind ↦ elim (cases_lt a (p + 8192)) [
          | inl inside ↦
              in_third xs ys zs ws p a (omega arith) behind (omega arith)
              ∙ get_or-take 8192 s (a - p) 0 (omega arith) ∙ to_place s (a - p) _ (omega arith)
          | inr beyond ↦
              in_fourth xs ys zs ws (p + 8192) a (omega arith) beyond
              ∙ get_or-drop (p + 8192) s (a - (p + 8192)) 0
              ∙ to_place s (p + 8192 + (a - (p + 8192))) _ (omega arith)
        ]
      ]
    ]

-- seen twice, storage is as it is
pub seen_twice : (prefix : Option ℕ) (s : List ℕ) → is_prefix prefix ≡ true → length s ≡ storage_size →
    seen_by prefix (seen_by prefix s) ≡ s
seen_twice prefix s h size =
    let once = length-seen prefix s h size in
    let twice = length-seen prefix (seen_by prefix s) h once in
    ext_get_or 0 (seen_by prefix (seen_by prefix s)) s (omega arith) (λ i k.
    seen_at prefix (seen_by prefix s) i h once (omega arith)
    ∙ seen_at prefix s (absolute_of prefix i) h size (absolute_within prefix i h (omega arith))
    ∙ to_place s _ i (absolute_twice prefix i h))

one_or_other : (i a : ℕ) → (i ≡ a) ⊎ (i ≢ a)
one_or_other i a = elim (cases_lt i a) [
  | inl less ↦ inr (omega arith)
  | inr more ↦ elim (cases_lt a i) [ inl less ↦ inr (omega arith) | inr same ↦ inl (omega arith) ]
]

-- a byte changed at its absolute address is that byte changed as it is seen
pub seen_set : (prefix : Option ℕ) (s : List ℕ) (a b : ℕ) → is_prefix prefix ≡ true →
    length s ≡ storage_size →
    a < storage_size → seen_by prefix (set s (absolute_of prefix a) b) ≡ set (seen_by prefix s) a b
seen_set prefix s a b h size within =
    let at : absolute_of prefix a < storage_size = absolute_within prefix a h within in
    let changed : length (set s (absolute_of prefix a) b) ≡ storage_size = length-set s _ b ∙ size in
    let seen = length-seen prefix s h size in
    let left = length-seen prefix (set s (absolute_of prefix a) b) h changed in
    let right : length (set (seen_by prefix s) a b) ≡ storage_size = length-set (seen_by prefix s) a b
    ∙ seen in
    ext_get_or 0 _ _ (left ∙ sym right) (λ i k.
    seen_at prefix (set s (absolute_of prefix a) b) i h changed (omega arith)
    ∙ elim (one_or_other i a) [
      | inl same ↦
          get_or-set_at s _ _ b 0 (ap (absolute_of prefix) same) (omega arith)
          ∙ sym (get_or-set_at (seen_by prefix s) a i b 0 same (omega arith))
      | inr other ↦
          get_or-set_other s _ _ b 0
          (λ e. other (sym (absolute_twice prefix i h) ∙ ap (absolute_of prefix) e
          ∙ absolute_twice prefix a h))
          ∙ sym (seen_at prefix s i h size (omega arith))
          ∙ sym (get_or-set_other (seen_by prefix s) a i b 0 other)
    ])

-- what lies in storage, and in one area, lies in storage by absolute addresses too
pub stays_inside : (p a n : ℕ) → IsArea p → a + n ≤ storage_size → n ≤ to_edge a
    → absolute_of (Some p) a + n ≤ storage_size
stays_inside p a n r h k =
    let m = moves p a r.low in
    elim (cases_lt a 8192) [
      | inl low ↦ omega (arith, m.first low, r.aligned, r.high, k)
      | inr high ↦ elim (cases_lt a p) [
        | inl below ↦ omega (arith, m.between high below, h)
        | inr from ↦ elim (cases_lt a (p + 8192)) [
          | inl own ↦ omega (arith, m.own from own, r.aligned, r.high, k, h)
          | inr past ↦ omega (arith, m.beyond past, h)
        ]
      ]
    ]
