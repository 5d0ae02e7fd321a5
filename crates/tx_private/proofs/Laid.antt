-- Storage as a list and as a function: one byte, several bytes, and the stores of operands.
use Rattle.std.proofs.Common.{◌≡◌, ◌≢◌, ℕ, suc, ◌+◌, ◌<◌, ◌≤◌, Bool, true, false, List, [], ◌∷◌, ◌++◌}
use Rattle.std.proofs.Common.{Option, refl, sym, ap, subst, ◌∙◌, arith, length, get_or, set, take, drop}
use Rattle.std.proofs.Common.{length-take, inl, inr, ◌⊎◌}
use Rattle.std.specs.Prelude.{map, cond, ◌==◌, if◌then◌else◌}
use Rattle.std.proofs.lemmas.Bool.{cases_lt}
use Rattle.std.proofs.lemmas.List.{ext_get_or, get_or-set_same, get_or-set_other, length-take-le}
use Rattle.std.proofs.lemmas.List.{take_more}
use Rattle.std.proofs.Math.ListN.{get_or-eq_default}
use Rattle.z_regs.specs.Prefix.{storage_size, is_prefix, absolute_of}
use Rattle.z_regs.specs.declared.ranges.Range.{Range}
use Rattle.z_regs.proofs.Exchange.{absolute_within}
use Rattle.z_touch.specs.Refusals.{span_of}
use Rattle.z_effect.specs.After.{AreInside}
use Rattle.store_cache.specs.Overlay.{Store}
use Rattle.tx_serial.specs.Flat.{Storage, at_put, bytes_below, bytes_of, stores_at, operand_stores}
use Rattle.tx_serial.specs.Flat.{laid_over, with_bytes_at}
use Rattle.tx_serial.proofs.Copies.{laid_twice}
use Rattle.tx_serial.proofs.Listed.{length-bytes_below, bytes_below_at}
use Rattle.tx_private.specs.Bytes.{function_of}
use Rattle.tx_private.specs.Shows.{EndsInTime}

-- ---- one byte

put_at : (s : List ℕ) (a b i : ℕ) → a < length s → (t : Bool) → (i == a) ≡ t
    → get_or (set s a b) i 0 ≡ (if i == a then b else get_or s i 0)
put_at s a b i h true e =
    let same : i ≡ a = grind (arith, e) in
    ap (λ k. get_or (set s a b) k 0) same ∙ get_or-set_same s a b 0 h
    ∙ sym (ap (λ t. if t then b else get_or s i 0) e)
put_at s a b i h false e =
    let other : i ≢ a = λ same. grind (arith, e, same) in
    get_or-set_other s a i b 0 other ∙ sym (ap (λ t. if t then b else get_or s i 0) e)

pub put_one : (s : List ℕ) (a b : ℕ) → a < length s → function_of (set s a b) ≡ at_put (function_of s) a b
put_one s a b h = λ k i. put_at s a b i h (i == a) refl k

-- ---- several bytes

stores_more : (prefix : Option ℕ) (a : ℕ) (xs : List ℕ) (b : ℕ)
    → stores_at prefix a (xs ++ b ∷ []) ≡ stores_at prefix a xs ++ stores_at prefix (a + length xs) (b ∷ [])
stores_more prefix a [] b = ap (λ x. stores_at prefix x (b ∷ [])) (let e : a ≡ a + 0 = omega arith in e)
stores_more prefix a (x ∷ xs) b =
    ap (λ ss. record { address = absolute_of prefix a; byte = x } ∷ ss)
    (stores_more prefix (suc a) xs b
    ∙ ap (λ y. stores_at prefix (suc a) xs ++ stores_at prefix y (b ∷ []))
    (let e : suc a + length xs ≡ a + suc (length xs) = omega arith in e))

-- bytes one after the other, and one more
pub one_more : (prefix : Option ℕ) (a n b : ℕ) (xs : List ℕ) (s : Storage) → n ≡ length xs
    → with_bytes_at prefix a (xs ++ b ∷ []) s
    ≡ at_put (with_bytes_at prefix a xs s) (absolute_of prefix (a + n)) b
unfolding laid_over
one_more prefix a n b xs s e =
    ap (laid_over s) (stores_more prefix a xs b)
    ∙ laid_twice (stores_at prefix a xs) (stores_at prefix (a + length xs) (b ∷ [])) s
    ∙ ap (λ m. at_put (with_bytes_at prefix a xs s) (absolute_of prefix (a + m)) b) (sym e)

-- a step of the loop over bytes
pub store_step : (prefix : Option ℕ) (a k : ℕ) (bytes s now new : List ℕ) → k < length bytes
    → function_of now ≡ with_bytes_at prefix a (take k bytes) (function_of s)
    → function_of new ≡ at_put (function_of now) (absolute_of prefix (a + k)) (get_or bytes k 0)
    → function_of new ≡ with_bytes_at prefix a (take (k + 1) bytes) (function_of s)
store_step prefix a k bytes s now new h before stored =
    stored
    ∙ ap (λ f. at_put f (absolute_of prefix (a + k)) (get_or bytes k 0)) before
    ∙ sym (one_more prefix a k (get_or bytes k 0) (take k bytes) (function_of s)
    (sym (length-take-le k bytes (let e : k ≤ length bytes = omega (arith, h) in e))))
    ∙ ap (λ xs. with_bytes_at prefix a xs (function_of s)) (sym (take_more bytes k 0 h))

-- ---- lists and functions

pub length-bytes : (g : Storage) → length (bytes_of g) ≡ storage_size
length-bytes g = length-bytes_below storage_size g

-- the list of a function that a list is read as
listed_below : (n : ℕ) (s : List ℕ) → length s ≡ n → bytes_below n (function_of s) ≡ s
listed_below n s size =
    let made = length-bytes_below n (function_of s) in
    ext_get_or 0 (bytes_below n (function_of s)) s (made ∙ sym size) (λ i h.
    let within : i < n = subst (λ m. i < m) made h in
    bytes_below_at n (function_of s) i within)

pub listed : (s : List ℕ) → length s ≡ storage_size → bytes_of (function_of s) ≡ s
listed s size = listed_below storage_size s size

-- stores into storage alone
abbrev pub AreWithin : List Store → Type 0
AreWithin [] = Unit {0}
AreWithin (s ∷ rest) = (s.address < storage_size) × AreWithin rest

within_append : (xs ys : List Store) → AreWithin xs → AreWithin ys → AreWithin (xs ++ ys)
within_append [] ys h k = k
within_append (x ∷ xs) ys h k = (h.0, within_append xs ys h.1 k)

beyond_put : (s : Storage) (x b a : ℕ) → x < storage_size → storage_size ≤ a → at_put s x b a ≡ s a
beyond_put s x b a h k = ap (λ t. if t then b else s a) (let e : (a == x) ≡ false = grind (arith, h, k) in e)

pub laid_beyond : (stores : List Store) (s : Storage) (a : ℕ) → AreWithin stores → storage_size ≤ a
    → laid_over s stores a ≡ s a
unfolding laid_over
laid_beyond [] s a h k = refl
laid_beyond (x ∷ rest) s a h k =
    laid_beyond rest (at_put s x.address x.byte) a h.1 k ∙ beyond_put s x.address x.byte a h.0 k

pub bytes_within : (prefix : Option ℕ) (bytes : List ℕ) (a : ℕ) → is_prefix prefix ≡ true
    → a + length bytes ≤ storage_size → AreWithin (stores_at prefix a bytes)
bytes_within prefix [] a ok h = tt
bytes_within prefix (b ∷ bs) a ok h = (
  absolute_within prefix a ok (let e : a < storage_size = omega (arith, h) in e),
  bytes_within prefix bs (suc a) ok (let e : suc a + length bs ≤ storage_size = omega (arith, h) in e),
)

abbrev pub AreIn : List Range → Type 0
AreIn [] = Unit {0}
AreIn (r ∷ rs) = (r.first + r.length ≤ storage_size) × AreIn rs

pub ranges_in : (ranges : List Range) (s : List ℕ) → length s ≡ storage_size
    → AreInside (map span_of ranges) s
    → AreIn ranges
ranges_in [] s size inside = tt
ranges_in (r ∷ rs) s size inside =
    (subst (λ n. r.first + r.length ≤ n) size inside.0, ranges_in rs s size inside.1)

first_within : (prefix : Option ℕ) (r : Range) (rs : List Range) (bytes : List ℕ) (t : Bool)
    → is_prefix prefix ≡ true → r.first + r.length ≤ storage_size
    → ((others : List ℕ) → AreWithin (operand_stores prefix rs others))
    → AreWithin (cond t
    (stores_at prefix r.first (take r.length bytes) ++ operand_stores prefix rs (drop r.length bytes))
    (operand_stores prefix rs bytes))
first_within prefix r rs bytes true ok h rest =
    within_append (stores_at prefix r.first (take r.length bytes)) (operand_stores prefix rs (drop r.length
    bytes))
    (bytes_within prefix (take r.length bytes) r.first ok
    (let e : r.first + length (take r.length bytes) ≤ storage_size = omega (
      arith,
      h,
      length-take r.length
          bytes,
    )
    in e))
    (rest (drop r.length bytes))
first_within prefix r rs bytes false ok h rest = rest bytes

pub operands_within : (prefix : Option ℕ) (ranges : List Range) → is_prefix prefix ≡ true → AreIn ranges
    → (bytes : List ℕ) → AreWithin (operand_stores prefix ranges bytes)
operands_within prefix [] ok inside bytes = tt
operands_within prefix (r ∷ rs) ok inside bytes =
    first_within prefix r rs bytes r.store ok inside.0 (operands_within prefix rs ok inside.1)

-- a list is read as a function where it has the function's bytes, and the function zeros behind them
same_byte : (n : ℕ) (t : List ℕ) (s : Storage) (a : ℕ) → length t ≡ n → t ≡ bytes_below n s
    → (n ≤ a → s a ≡ 0) → (a < n) ⊎ (n ≤ a) → get_or t a 0 ≡ s a
same_byte n t s a size e zeros (inl h) = ap (λ xs. get_or xs a 0) e ∙ bytes_below_at n s a h
same_byte n t s a size e zeros (inr h) =
    get_or-eq_default t 0 (let past : length t ≤ a = omega (arith, size, h) in past) ∙ sym (zeros h)

read_below : (n : ℕ) (t : List ℕ) (s : Storage) → length t ≡ n → t ≡ bytes_below n s
    → ((a : ℕ) → n ≤ a → s a ≡ 0) → function_of t ≡ s
read_below n t s size e zeros = λ k a. same_byte n t s a size e (zeros a) (cases_lt a n) k

pub read_as : (t : List ℕ) (s : Storage) → length t ≡ storage_size → t ≡ bytes_of s → EndsInTime s
    → function_of t ≡ s
read_as t s size e zeros = read_below storage_size t s size e zeros

ends_below : (n : ℕ) (s : List ℕ) → length s ≡ n → (a : ℕ) → n ≤ a → get_or s a 0 ≡ 0
ends_below n s size a h = get_or-eq_default s 0 (let past : length s ≤ a = omega (arith, size, h) in past)

pub ends : (s : List ℕ) → length s ≡ storage_size → EndsInTime (function_of s)
ends s size = ends_below storage_size s size
