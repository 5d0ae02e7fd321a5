-- Bytes of storage as a function of addresses, and as the list that a CPU sees.
use Rattle.std.proofs.Common.{◌≡◌, ◌≢◌, Bool, false, set, ℕ, zero, suc, ◌+◌, ◌<◌, ◌≤◌, true, List, [], ◌∷◌}
use Rattle.std.proofs.Common.{◌++◌, length, get_or, take, drop, Option, refl, sym}
use Rattle.std.proofs.Common.{ap, subst, ◌∙◌, arith}
use Rattle.std.specs.Prelude.{map, cond, ◌==◌, if◌then◌else◌}
use Rattle.std.proofs.lemmas.List.{drop_more, append-nil, ext_get_or, length-set, get_or-set_same}
use Rattle.std.proofs.lemmas.List.{get_or-set_other, drop-set-lt, length-take, append_assoc}
use Rattle.std.proofs.lemmas.List.{take-append-drop}
use Rattle.std.proofs.lemmas.Grind.{take-set_at}
use Rattle.std.proofs.lemmas.List.FromFn.{length-map-range_with_len, get_or-map-range_with_len}
use Rattle.z_regs.specs.Prefix.{storage_size, is_prefix, absolute_of}
use Rattle.z_regs.specs.Seen.{seen_by}
use Rattle.z_regs.specs.declared.ranges.Range.{Range}
use Rattle.z_regs.proofs.Exchange.{seen_at, seen_set, length-seen, absolute_within}
use Rattle.z_instr.specs.Operands.{Span, from_up}
use Rattle.z_touch.specs.Refusals.{span_of}
use Rattle.z_effect.specs.After.{range_at, touched, written, with_stored, AreInside}
use Rattle.tx_serial.specs.Flat.{Storage, at_put, bytes_below, bytes_of, operand_bytes}
use Rattle.tx_serial.specs.Flat.{stores_at, operand_stores, laid_over}
use Rattle.tx_serial.proofs.Copies.{laid_twice}

pub length-bytes_below : (n : ℕ) (storage : Storage) → length (bytes_below n storage) ≡ n
unfolding bytes_below
length-bytes_below n storage = length-map-range_with_len storage 0 n

pub bytes_below_at : (n : ℕ) (storage : Storage) (a : ℕ) → a < n → get_or (bytes_below n storage) a 0 ≡ storage a
unfolding bytes_below
bytes_below_at n storage a h = get_or-map-range_with_len storage 0 n a a 0 h (omega arith)

-- some bytes of a list, by what stands at each place
pub taken : (n : ℕ) (a : ℕ) (s : List ℕ) (f : ℕ → ℕ)
    → ((x : ℕ) → x < length s → get_or s x 0 ≡ f x) → a + n ≤ length s
    → take n (drop a s) ≡ map f (from_up a n)
taken zero a s f at h = refl
taken (suc n) a s f at h =
    let within : a < length s = omega (arith, h) in
    let next : a + 1 ≡ suc a = omega arith in
    let rest : suc a + n ≤ length s = omega (arith, h) in
    ap (take (suc n)) (drop_more s a 0 within)
    ∙ ap (λ b. b ∷ take n (drop (a + 1) s)) (at a within)
    ∙ ap (λ k. f a ∷ take n (drop k s)) next
    ∙ ap (λ bs. f a ∷ bs) (taken n (suc a) s f at rest)

pub touched_first : (r : Span) (rs : List Span) (s : List ℕ) → touched (r ∷ rs) s
    ≡ range_at s r.first r.length ++ touched rs s
touched_first r [] s = sym (append-nil (range_at s r.first r.length))
touched_first r (q ∷ rs) s = refl

all_taken : (prefix : Option ℕ) (storage : Storage) (ranges : List Range) (s : List ℕ)
    → ((x : ℕ) → x < length s → get_or s x 0 ≡ storage (absolute_of prefix x))
    → AreInside (map span_of ranges) s
    → operand_bytes prefix storage ranges ≡ touched (map span_of ranges) s
all_taken prefix storage [] s at inside = refl
all_taken prefix storage (r ∷ rs) s at inside =
    ap (λ bs. bs ++ operand_bytes prefix storage rs)
    (sym (taken r.length r.first s (λ x. storage (absolute_of prefix x)) at inside.0))
    ∙ ap (λ bs. range_at s r.first r.length ++ bs) (all_taken prefix storage rs s at inside.1)
    ∙ sym (touched_first (span_of r) (map span_of rs) s)

pub bytes_are_seen : (prefix : Option ℕ) (storage : Storage) (ranges : List Range) → is_prefix prefix ≡ true
    → AreInside (map span_of ranges) (seen_by prefix (bytes_of storage))
    → operand_bytes prefix storage ranges ≡ touched (map span_of ranges) (seen_by prefix (bytes_of storage))
bytes_are_seen prefix storage ranges ok inside =
    let size = length-bytes_below storage_size storage in
    all_taken prefix storage ranges (seen_by prefix (bytes_of storage))
    (λ x h.
    let within : x < storage_size = subst (λ n. x < n) (length-seen prefix (bytes_of storage) ok size)
    h in
    seen_at prefix (bytes_of storage) x ok size within
    ∙ bytes_below_at storage_size storage (absolute_of prefix x) (absolute_within prefix x ok within))
    inside

-- ---- stores

-- one byte stored is one place of the list set
set_below : (n : ℕ) (storage : Storage) (a b : ℕ) → bytes_below n (at_put storage a b)
    ≡ set (bytes_below n storage) a b
set_below n storage a b =
    let before = length-bytes_below n storage in
    let left = length-bytes_below n (at_put storage a b) in
    let right : length (set (bytes_below n storage) a b) ≡ n = length-set (bytes_below n storage) a b
    ∙ before in
    ext_get_or 0 (bytes_below n (at_put storage a b)) (set (bytes_below n storage) a b) (left
    ∙ sym right) (λ i h.
    let within : i < n = subst (λ m. i < m) left h in
    bytes_below_at n (at_put storage a b) i within
    ∙ set_at n storage a b i within (i == a) refl)
  where
    set_at : (n : ℕ) (storage : Storage) (a b i : ℕ) → i < n → (t : Bool) → (i == a) ≡ t
        → (if i == a then b else storage i) ≡ get_or (set (bytes_below n storage) a b) i 0
    set_at n storage a b i h true e =
        let same : i ≡ a = grind (arith, e) in
        let size = length-bytes_below n storage in
        ap (λ t. if t then b else storage i) e
        ∙ sym (ap (λ k. get_or (set (bytes_below n storage) a b) k 0) same
        ∙ get_or-set_same (bytes_below n storage) a b 0 (omega (arith, h, same, size)))
    set_at n storage a b i h false e =
        let other : i ≢ a = λ s. grind (arith, e, s) in
        ap (λ t. if t then b else storage i) e
        ∙ sym (get_or-set_other (bytes_below n storage) a i b 0 other ∙ bytes_below_at n storage i h)

-- bytes stored one after the other are written together
written_more : (s : List ℕ) (a b : ℕ) (bs : List ℕ) → a < length s → written (set s a b) (suc a) bs
    ≡ written s a (b ∷ bs)
written_more s a b bs h =
    let next : suc a ≡ a + 1 = omega arith in
    let past : a < suc a + length bs = omega arith in
    let end : suc a + length bs ≡ a + suc (length bs) = omega arith in
    ap (λ t. t ++ bs ++ drop (suc a + length bs) (set s a b)) (take-set_at s a (suc a) b next h)
    ∙ ap (λ t. (take a s ++ b ∷ []) ++ bs ++ t) (drop-set-lt (suc a + length bs) s a b past)
    ∙ ap (λ k. (take a s ++ b ∷ []) ++ bs ++ drop k s) end
    ∙ ap (λ t. t ++ drop (a + suc (length bs)) s) (append_assoc (take a s) (b ∷ []) bs)

written_none : (s : List ℕ) (a : ℕ) → written s a [] ≡ s
written_none s a =
    let same : a + 0 ≡ a = omega arith in
    ap (λ t. t ++ drop (a + 0) s) (append-nil (take a s))
    ∙ ap (λ k. take a s ++ drop k s) same ∙ take-append-drop a s

stored_seen : (prefix : Option ℕ) (bytes : List ℕ) (a : ℕ) (storage : Storage) → is_prefix prefix ≡ true
    → a + length bytes ≤ storage_size
    → seen_by prefix (bytes_of (laid_over storage (stores_at prefix a bytes)))
    ≡ written (seen_by prefix (bytes_of storage)) a bytes
unfolding laid_over
stored_seen prefix [] a storage ok h = sym (written_none (seen_by prefix (bytes_of storage)) a)
stored_seen prefix (b ∷ bs) a storage ok h =
    let within : a < storage_size = omega (arith, h) in
    let rest : suc a + length bs ≤ storage_size = omega (arith, h) in
    let size = length-bytes_below storage_size storage in
    let seen = length-seen prefix (bytes_of storage) ok size in
    stored_seen prefix bs (suc a) (at_put storage (absolute_of prefix a) b) ok rest
    ∙ ap (λ s. written (seen_by prefix s) (suc a) bs) (set_below storage_size storage (absolute_of prefix
    a) b)
    ∙ ap (λ s. written s (suc a) bs) (seen_set prefix (bytes_of storage) a b ok size within)
    ∙ written_more (seen_by prefix (bytes_of storage)) a b bs (subst (λ n. a < n) (sym seen) within)

abbrev AreWithin : List Range → Type 0
AreWithin [] = Unit {0}
AreWithin (r ∷ rs) = (r.first + r.length ≤ storage_size) × AreWithin rs

within_from : (ranges : List Range) (s : List ℕ) → length s ≡ storage_size → AreInside (map span_of ranges) s
    → AreWithin ranges
within_from [] s size inside = tt
within_from (r ∷ rs) s size inside =
    (subst (λ n. r.first + r.length ≤ n) size inside.0, within_from rs s size inside.1)

-- the stores of operands, by whether the first is stored
first_stored : (prefix : Option ℕ) (r : Range) (rs : List Range) (bytes : List ℕ) (storage : Storage) (t :
    Bool)
    → is_prefix prefix ≡ true → r.first + r.length ≤ storage_size
    → ((others : List ℕ) (base : Storage)
    → seen_by prefix (bytes_of (laid_over base (operand_stores prefix rs others)))
    ≡ with_stored (map span_of rs) others (seen_by prefix (bytes_of base)))
    → seen_by prefix (bytes_of (laid_over storage
    (cond t (stores_at prefix r.first (take r.length bytes) ++ operand_stores prefix rs (drop r.length bytes))
    (operand_stores prefix rs bytes))))
    ≡ cond t
    (with_stored (map span_of rs) (drop r.length bytes)
    (written (seen_by prefix (bytes_of storage)) r.first (take r.length bytes)))
    (with_stored (map span_of rs) bytes (seen_by prefix (bytes_of storage)))
first_stored prefix r rs bytes storage true ok h rest =
    let first = stores_at prefix r.first (take r.length bytes) in
    let short : r.first + length (take r.length bytes) ≤ storage_size = omega (
      arith,
      h,
      length-take
          r.length bytes,
    ) in
    ap (λ base. seen_by prefix (bytes_of base)) (laid_twice first (operand_stores prefix rs (drop r.length
    bytes)) storage)
    ∙ rest (drop r.length bytes) (laid_over storage first)
    ∙ ap (with_stored (map span_of rs) (drop r.length bytes)) (stored_seen prefix (take r.length bytes)
    r.first storage ok short)
first_stored prefix r rs bytes storage false ok h rest = rest bytes storage

all_stored : (prefix : Option ℕ) (ranges : List Range) → is_prefix prefix ≡ true → AreWithin ranges
    → (bytes : List ℕ) (storage : Storage)
    → seen_by prefix (bytes_of (laid_over storage (operand_stores prefix ranges bytes)))
    ≡ with_stored (map span_of ranges) bytes (seen_by prefix (bytes_of storage))
unfolding laid_over
all_stored prefix [] ok within bytes storage = refl
all_stored prefix (r ∷ rs) ok within bytes storage =
    first_stored prefix r rs bytes storage r.store ok within.0 (all_stored prefix rs ok within.1)

pub stores_are_seen : (prefix : Option ℕ) (storage : Storage) (ranges : List Range) (bytes : List ℕ)
    → is_prefix prefix ≡ true
    → AreInside (map span_of ranges) (seen_by prefix (bytes_of storage))
    → seen_by prefix (bytes_of (laid_over storage (operand_stores prefix ranges bytes)))
    ≡ with_stored (map span_of ranges) bytes (seen_by prefix (bytes_of storage))
stores_are_seen prefix storage ranges bytes ok inside =
    let size = length-bytes_below storage_size storage in
    let seen = length-seen prefix (bytes_of storage) ok size in
    all_stored prefix ranges ok (within_from ranges (seen_by prefix (bytes_of storage)) seen inside) bytes
    storage
