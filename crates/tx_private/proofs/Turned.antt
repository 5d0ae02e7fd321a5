-- Copies of storage that become the same, line by line.
use Rattle.std.proofs.Common.{◌≡◌, ◌∙◌, ap, sym, refl, ℕ, ◌+◌, ◌-◌, ◌*◌, ◌/◌, ◌<◌, ◌≤◌, ◌⊎◌, inl, inr, arith}
use Rattle.std.proofs.Common.{List, length, get_or, drop, true, Option, None, Some, length-drop}
use Rattle.std.proofs.lemmas.Bool.{cases_lt}
use Rattle.std.proofs.lemmas.List.{ext_get_or, get_or-take, get_or-drop, length-take-le}
use Rattle.z_regs.specs.Prefix.{storage_size, is_prefix, absolute_of}
use Rattle.z_regs.specs.Seen.{seen_by}
use Rattle.z_regs.specs.Written.{range_at, written}
use Rattle.z_regs.proofs.Exchange.{area, moves, absolute_within, seen_at, length-seen}
use Rattle.z_regs.proofs.MovedBytes.{along}
use Rattle.z_regs.proofs.Writes.{below, above, inside, length-written}
use Rattle.tx_private.specs.Bytes.{function_of}
use Rattle.tx_private.specs.declared.attempt.Attempt.{Attempt}
use Rattle.tx_private.specs.Ready.{IsReady, IsTurned}
use Rattle.tx_private.proofs.Laid.{listed}
use Rattle.tx_serial.specs.Flat.{bytes_of}

-- ---- item by item

-- so many bytes are copied from one place to another, and no others change
pub record Copied (from old to : List ℕ) (first from_first k : ℕ) : Type 0 where
  pub copied : (j : ℕ) → j < k → get_or to (first + j) 0 ≡ get_or from (from_first + j) 0
  pub others : (j : ℕ) → (j < first) ⊎ (first + k ≤ j) → get_or to j 0 ≡ get_or old j 0
  pub size : length to ≡ storage_size

-- and eight more
pub copy_more : (from old to new : List ℕ) (first from_first k : ℕ) → Copied from old to first from_first k
    → first + k + 8 ≤ storage_size → from_first + k + 8 ≤ storage_size → length from ≡ storage_size
    → new ≡ written to (first + k) (range_at from (from_first + k) 8)
    → Copied from old new first from_first (k + 8)
copy_more from old to new first from_first k h within from_within from_size is = record {
  copied = λ j low. by_copied j low (cases_lt j k);
  others = λ j apart. ap (λ xs. get_or xs j 0) is ∙ apart_from j apart ∙ h.others j (wider j apart);
  size = ap (λ (xs : List ℕ). length xs) is ∙ length-written to (first + k) item (room (h.size)) ∙ h.size;
}
  where
    item : List ℕ
    item = range_at from (from_first + k) 8

    eight : length (range_at from (from_first + k) 8) ≡ 8
    eight = length-take-le 8 (drop (from_first + k) from) (omega (arith, length-drop (from_first + k) from, from_size, from_within))

    room : length to ≡ storage_size → first + k + length (range_at from (from_first + k) 8) ≤ length to
    room s = omega (arith, s, eight, within)

    start : first + k ≤ length to
    start = let s = h.size in omega (arith, s, within)

    apart_from : (j : ℕ) → (j < first) ⊎ (first + (k + 8) ≤ j)
        → get_or (written to (first + k) (range_at from (from_first + k) 8)) j 0 ≡ get_or to j 0
    apart_from j (inl low) = below to (first + k) (range_at from (from_first + k) 8) j start (omega (arith, low))
    apart_from j (inr high) =
        above to (first + k) (range_at from (from_first + k) 8) j start (omega (arith, high, eight))

    wider : (j : ℕ) → (j < first) ⊎ (first + (k + 8) ≤ j) → (j < first) ⊎ (first + k ≤ j)
    wider j (inl low) = inl low
    wider j (inr high) = inr (omega (arith, high))

    by_copied : (j : ℕ) → j < k + 8 → (j < k) ⊎ (k ≤ j) → get_or new (first + j) 0 ≡ get_or from (from_first + j) 0
    by_copied j low (inl before) =
        ap (λ xs. get_or xs (first + j) 0) is
        ∙ below to (first + k) (range_at from (from_first + k) 8) (first + j) start (omega (arith, before))
        ∙ h.copied j before
    by_copied j low (inr behind) =
        let there : first + j ≡ first + k + (j - k) = omega (arith, behind) in
        let from_there : from_first + k + (j - k) ≡ from_first + j = omega (arith, behind) in
        ap (λ xs. get_or xs (first + j) 0) is
        ∙ ap (λ i. get_or (written to (first + k) (range_at from (from_first + k) 8)) i 0) there
        ∙ inside to (first + k) (range_at from (from_first + k) 8) (j - k) start (omega (arith, low, behind, eight))
        ∙ get_or-take 8 (drop (from_first + k) from) (j - k) 0 (omega (arith, low, behind))
        ∙ get_or-drop (from_first + k) from (j - k) 0
        ∙ ap (λ i. get_or from i 0) from_there

-- ---- the lines that a CPU sees

-- a line lies in one piece
pub line_stays : (prefix : Option ℕ) (line k : ℕ) → is_prefix prefix ≡ true → k < 256
    → absolute_of prefix (256 * line + k) ≡ absolute_of prefix (256 * line) + k
line_stays None line k ok within = refl
line_stays (Some p) line k ok within = along p (256 * line) k (area p ok) (omega (arith, within))

-- and begins at a line
pub line_begins : (prefix : Option ℕ) (line : ℕ) → is_prefix prefix ≡ true
    → 256 * (absolute_of prefix (256 * line) / 256) ≡ absolute_of prefix (256 * line)
line_begins None line ok = omega arith
line_begins (Some p) line ok =
    let r = area p ok in
    let a = 256 * line in
    let m = moves p a r.low in
    elim (cases_lt a 8192) [
      | inl low ↦ omega (arith, m.first low, r.aligned)
      | inr high ↦ elim (cases_lt a p) [
        | inl below ↦ omega (arith, m.between high below)
        | inr from ↦ elim (cases_lt a (p + 8192)) [
          | inl own ↦ omega (arith, m.own from own, r.aligned)
          | inr past ↦ omega (arith, m.beyond past)
        ]
      ]
    ]

pub line_moves : (prefix : Option ℕ) (line seen : ℕ) → is_prefix prefix ≡ true
    → seen ≡ absolute_of prefix (256 * line) / 256 → (k : ℕ) → k < 256
    → absolute_of prefix (256 * line + k) ≡ 256 * seen + k
line_moves prefix line seen ok is k within =
    line_stays prefix line k ok within
    ∙ ap (λ x. x + k) (sym (line_begins prefix line ok) ∙ ap (λ x. 256 * x) (sym is))

pub line_within : (prefix : Option ℕ) (line : ℕ) → is_prefix prefix ≡ true → line < 4096
    → absolute_of prefix (256 * line) / 256 < 4096
line_within prefix line ok within =
    let h = absolute_within prefix (256 * line) ok (omega (arith, within)) in omega (arith, h)

-- ---- lines by real addresses

pub record Refreshed (prefix : Option ℕ) (from old to : List ℕ) (first end : ℕ) : Type 0 where
  pub copied : (j : ℕ) → 256 * first ≤ j → j < 256 * end → get_or to j 0 ≡ get_or from (absolute_of prefix j) 0
  pub others : (j : ℕ) → (j < 256 * first) ⊎ (256 * end ≤ j) → get_or to j 0 ≡ get_or old j 0
  pub size : length to ≡ storage_size

-- one line that is copied is refreshed
pub refreshed_line : (prefix : Option ℕ) (from to : List ℕ) (line seen : ℕ)
    → ((k : ℕ) → k < 256 → absolute_of prefix (256 * line + k) ≡ 256 * seen + k)
    → ((k : ℕ) → k < 256 → get_or to (256 * line + k) 0 ≡ get_or from (256 * seen + k) 0)
    → (j : ℕ) → 256 * line ≤ j → j < 256 * line + 256 → get_or to j 0 ≡ get_or from (absolute_of prefix j) 0
refreshed_line prefix from to line seen moved copied j low high =
    let k = j - 256 * line in
    let small : k < 256 = omega (arith, low, high) in
    let here : j ≡ 256 * line + k = omega (arith, low) in
    ap (λ i. get_or to i 0) here ∙ copied k small ∙ ap (λ i. get_or from i 0) (sym (moved k small))
    ∙ ap (λ i. get_or from (absolute_of prefix i) 0) (sym here)

pub refreshed_none : (prefix : Option ℕ) (from to : List ℕ) (first : ℕ) → length to ≡ storage_size
    → Refreshed prefix from to to first first
refreshed_none prefix from to first size = record {
  copied = λ j above below. absurd (omega (arith, above, below));
  others = λ j apart. refl;
  size = size;
}

pub refreshed_more : (prefix : Option ℕ) (from old to new : List ℕ) (first line : ℕ) → first ≤ line
    → Refreshed prefix from old to first line
    → ((j : ℕ) → 256 * line ≤ j → j < 256 * line + 256 → get_or new j 0 ≡ get_or from (absolute_of prefix j) 0)
    → ((j : ℕ) → (j < 256 * line) ⊎ (256 * line + 256 ≤ j) → get_or new j 0 ≡ get_or to j 0)
    → length new ≡ storage_size → Refreshed prefix from old new first (line + 1)
refreshed_more prefix from old to new first line order before copied others size = record {
  copied = λ j above below. by j above below (cases_lt j (256 * line));
  others = λ j apart. others j (outside j apart) ∙ before.others j (wider j apart);
  size = size;
}
  where
    by : (j : ℕ) → 256 * first ≤ j → j < 256 * (line + 1) → (j < 256 * line) ⊎ (256 * line ≤ j)
        → get_or new j 0 ≡ get_or from (absolute_of prefix j) 0
    by j above below (inl low) = others j (inl low) ∙ before.copied j above low
    by j above below (inr high) = copied j high (omega (arith, below))

    outside : (j : ℕ) → (j < 256 * first) ⊎ (256 * (line + 1) ≤ j) → (j < 256 * line) ⊎ (256 * line + 256 ≤ j)
    outside j (inl low) = inl (omega (arith, low, order))
    outside j (inr high) = inr (omega (arith, high))

    wider : (j : ℕ) → (j < 256 * first) ⊎ (256 * (line + 1) ≤ j) → (j < 256 * first) ⊎ (256 * line ≤ j)
    wider j (inl low) = inl low
    wider j (inr high) = inr (omega (arith, high))

-- ---- all lines

-- a copy whose bytes are those at absolute addresses
pub seen_so : (prefix : Option ℕ) (s copy : List ℕ) → is_prefix prefix ≡ true → length s ≡ storage_size
    → length copy ≡ storage_size
    → ((j : ℕ) → j < storage_size → get_or copy j 0 ≡ get_or s (absolute_of prefix j) 0) → copy ≡ seen_by prefix s
seen_so prefix s copy ok size whole same =
    ext_get_or 0 copy (seen_by prefix s) (whole ∙ sym (length-seen prefix s ok size))
    (λ j h. let within : j < storage_size = omega (arith, h, whole) in
    same j within ∙ sym (seen_at prefix s j ok size within))

-- outside of the first area and of its own a CPU sees storage as it is
pub area_apart : (prefix : Option ℕ) (own j : ℕ) → is_prefix prefix ≡ true
    → ((p : ℕ) → prefix ≡ Some p → 256 * own ≡ p) → 8192 ≤ j
    → (j < 256 * own) ⊎ (256 * own + 8192 ≤ j) → absolute_of prefix j ≡ j
area_apart None own j ok is high apart = refl
area_apart (Some p) own j ok is high (inl low) =
    let m = moves p j (area p ok).low in m.between high (let e = is p refl in omega (arith, e, low))
area_apart (Some p) own j ok is high (inr past) =
    let m = moves p j (area p ok).low in m.beyond (let e = is p refl in omega (arith, e, past))

pub own_lines : (p : ℕ) → is_prefix (Some p) ≡ true → 256 * (p / 256) ≡ p
own_lines p ok = let r = area p ok in omega (arith, r.aligned)

pub own_within : (p : ℕ) → is_prefix (Some p) ≡ true → p / 256 + 32 ≤ 4096
own_within p ok = let r = area p ok in omega (arith, r.high)

-- a copy in which three areas are refreshed
module _ (before prefix : Option ℕ) (s first second third fourth : List ℕ) (old new : ℕ)
    (before_in : is_prefix before ≡ true) (prefix_in : is_prefix prefix ≡ true) (size : length s ≡ storage_size)
    (is : first ≡ seen_by before s)
    (old_apart : (j : ℕ) → 8192 ≤ j → (j < 256 * old) ⊎ (256 * old + 8192 ≤ j) → absolute_of before j ≡ j)
    (new_apart : (j : ℕ) → 8192 ≤ j → (j < 256 * new) ⊎ (256 * new + 8192 ≤ j) → absolute_of prefix j ≡ j)
    (one : Refreshed prefix s first second 0 32) (two : Refreshed prefix s second third old (old + 32))
    (three : Refreshed prefix s third fourth new (new + 32)) where
  in_none : (j : ℕ) → j < storage_size → 8192 ≤ j → (j < 256 * old) ⊎ (256 * old + 8192 ≤ j)
      → (j < 256 * new) ⊎ (256 * new + 8192 ≤ j) → get_or second j 0 ≡ get_or s (absolute_of prefix j) 0
  in_none j within high off out =
      one.others j (inr (omega (arith, high))) ∙ ap (λ xs. get_or xs j 0) is ∙ seen_at before s j before_in size within
      ∙ ap (λ i. get_or s i 0) (old_apart j high off ∙ sym (new_apart j high out))

  at_second : (j : ℕ) → j < storage_size → (j < 256 * old) ⊎ (256 * old + 8192 ≤ j)
      → (j < 256 * new) ⊎ (256 * new + 8192 ≤ j) → (j < 8192) ⊎ (8192 ≤ j)
      → get_or second j 0 ≡ get_or s (absolute_of prefix j) 0
  at_second j within off out (inl low) = one.copied j (omega arith) (omega (arith, low))
  at_second j within off out (inr high) = in_none j within high off out

  end_of : (j line : ℕ) → (j < 256 * line) ⊎ (256 * line + 8192 ≤ j) → (j < 256 * line) ⊎ (256 * (line + 32) ≤ j)
  end_of j line (inl low) = inl low
  end_of j line (inr past) = inr (omega (arith, past))

  at_third : (j : ℕ) → j < storage_size → (j < 256 * new) ⊎ (256 * new + 8192 ≤ j)
      → (j < 256 * old) ⊎ (256 * old ≤ j) → (j < 256 * old + 8192) ⊎ (256 * old + 8192 ≤ j)
      → get_or third j 0 ≡ get_or s (absolute_of prefix j) 0
  at_third j within out (inl low) _ =
      two.others j (inl low) ∙ at_second j within (inl low) out (cases_lt j 8192)
  at_third j within out (inr from) (inl own) = two.copied j from (omega (arith, own))
  at_third j within out (inr from) (inr past) =
      two.others j (end_of j old (inr past)) ∙ at_second j within (inr past) out (cases_lt j 8192)

  at_fourth : (j : ℕ) → j < storage_size → (j < 256 * new) ⊎ (256 * new ≤ j)
      → (j < 256 * new + 8192) ⊎ (256 * new + 8192 ≤ j) → get_or fourth j 0 ≡ get_or s (absolute_of prefix j) 0
  at_fourth j within (inl low) _ =
      three.others j (inl low)
      ∙ at_third j within (inl low) (cases_lt j (256 * old)) (cases_lt j (256 * old + 8192))
  at_fourth j within (inr from) (inl own) = three.copied j from (omega (arith, own))
  at_fourth j within (inr from) (inr past) =
      three.others j (end_of j new (inr past))
      ∙ at_third j within (inr past) (cases_lt j (256 * old)) (cases_lt j (256 * old + 8192))

  pub exchanged : fourth ≡ seen_by prefix s
  exchanged =
      seen_so prefix s fourth prefix_in size three.size
      (λ j within. at_fourth j within (cases_lt j (256 * new)) (cases_lt j (256 * new + 8192)))

-- ---- copies that follow storage

-- storage with the same bytes is the same
pub same_storage : (s t : List ℕ) → length s ≡ storage_size → length t ≡ storage_size
    → function_of s ≡ function_of t → s ≡ t
same_storage s t size other is = sym (listed s size) ∙ ap bytes_of is ∙ listed t other

pub unprefixed : (prefix : Option ℕ) (s : List ℕ) → prefix ≡ None → seen_by prefix s ≡ s
unfolding seen_by
unprefixed prefix s none = ap (λ p. seen_by p s) none

-- copies that are turned for a CPU are ready
pub turned_ready : (prefix : Option ℕ) (bytes : List ℕ) (a : Attempt) → is_prefix prefix ≡ true
    → IsTurned prefix bytes a → IsReady bytes a
turned_ready prefix bytes a ok h = record {
  prefix_in = ap is_prefix h.turned ∙ ok;
  seen = h.seen ∙ ap (λ p. seen_by p bytes) (sym h.turned);
  lasting = h.lasting ∙ ap (λ p. seen_by p bytes) (sym h.turned);
}
