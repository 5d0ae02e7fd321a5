-- Fields written one after the other make the block that the table says.
use Rattle.std.proofs.Common.{◌≡◌, ℕ, zero, suc, ◌+◌, ◌-◌, ◌<◌, ◌≤◌, Bool, true, false, ◌&&◌, ◌||◌, cond, leb, ltb, List, [], ◌∷◌, ◌++◌, length, get_or, take, drop, map, refl, sym, ap, ◌∙◌, arith}
use Rattle.std.specs.List.{list_any, count_by, Contains, range_with_len}
use Rattle.std.proofs.lemmas.List.{length-append, length-take-le, length-drop, get_or_append_left, get_or-append_right, get_or-take, get_or-drop, get_or_past}
use Rattle.std.proofs.lemmas.List.FromFn.{fill_by_all, length-map-range_with_len, get_or-map-range_with_len}
use Rattle.std.proofs.lemmas.Bool.{cases_lt, cases_Bool, and_parts, leb-true, ltb-true, and_left, and_right, and_from, lt-leb, le-ltb, le-leb, lt-ltb, or_from, or_parts, false_from_ne_true}
use Rattle.std.proofs.lemmas.List.Sums.{sum_by-cons}
use Rattle.std.proofs.lemmas.List.Folds.{list_any_at}
use borrow.Enum.Arm.{by_way}
use Rattle.byteorder.specs.Endian.{big_bytes}
use Rattle.byteorder.specs.Numbers.{length-bytes_high_first}
use Rattle.tx_control.specs.declared.begins.Begin.{Begin}
use Rattle.tx_control.specs.declared.causes.Why.{Why}
use Rattle.tx_abort.specs.Block.{Field, fields, register_field, register_fields, has, byte_in, byte_at, block}
use Rattle.tx_abort.specs.Writes.{with_field, with_fields}

-- ---- one field

pub length-with_field : (f : Field) (bytes : List ℕ) → f.first + f.length ≤ length bytes →
    length (with_field f bytes) ≡ length bytes
unfolding with_field
length-with_field f bytes h =
    let value = big_bytes f.length f.value in
    let rest = drop (f.first + f.length) bytes in
    let front : length (take f.first bytes) ≡ f.first = length-take-le f.first bytes (omega arith) in
    omega (
      arith,
      front,
      length-append (take f.first bytes) (value ++ rest),
      length-append value rest,
      length-bytes_high_first f.length f.value,
      length-drop (f.first + f.length) bytes,
    )

-- the field's bytes are there, and all others stay
pub get_or-with_field : (f : Field) (bytes : List ℕ) (k : ℕ) → f.first + f.length ≤ length bytes →
    get_or (with_field f bytes) k 0 ≡ cond (has f k) (byte_in f k) (get_or bytes k 0)
unfolding with_field
get_or-with_field f bytes k h =
    let value : List ℕ = big_bytes f.length f.value in
    let rest : List ℕ = drop (f.first + f.length) bytes in
    let front : length (take f.first bytes) ≡ f.first = length-take-le f.first bytes (omega arith) in
    let middle : length value ≡ f.length = length-bytes_high_first f.length f.value in
    by_way (cases_lt k f.first)
    (λ before.
    let none : has f k ≡ false = and_left (leb f.first k) (ltb k (f.first + f.length)) (lt-leb _ _ before) in
    get_or_append_left (take f.first bytes) (value ++ rest) 0 k (omega (arith, front))
    ∙ get_or-take f.first bytes k 0 before ∙ sym (ap (λ b. cond b (byte_in f k) (get_or bytes k 0)) none))
    (λ from.
    get_or-append_right (take f.first bytes) (value ++ rest) f.first k 0 front from
    ∙ by_way (cases_lt k (f.first + f.length))
    (λ within.
    let there : has f k ≡ true =
    and_from (leb f.first k) (ltb k (f.first + f.length)) (le-leb _ _ from) (lt-ltb _ _ within) in
    get_or_append_left value rest 0 (k - f.first) (omega (arith, middle))
    ∙ sym (ap (λ b. cond b (byte_in f k) (get_or bytes k 0)) there))
    (λ behind.
    let none : has f k ≡ false = and_right (leb f.first k) (ltb k (f.first + f.length)) (le-ltb _ _ behind) in
    get_or-append_right value rest f.length (k - f.first) 0 middle (omega arith)
    ∙ get_or-drop (f.first + f.length) bytes (k - f.first - f.length) 0
    ∙ ap (λ n. get_or bytes n 0) (omega arith)
    ∙ sym (ap (λ b. cond b (byte_in f k) (get_or bytes k 0)) none)))

-- ---- fields in rising order, from a position on and up to an end

abbrev pub are_in_order : ℕ → ℕ → List Field → Bool
are_in_order from end [] = leb from end
are_in_order from end (f ∷ fs) = leb from f.first && are_in_order (f.first + f.length) end fs

abbrev pub have : List Field → ℕ → Bool
have fs k = list_any (λ f. has f k) fs

order_ends : (from end : ℕ) (fs : List Field) → are_in_order from end fs ≡ true → from ≤ end
order_ends from end [] o = leb-true _ _ o
order_ends from end (f ∷ fs) o =
    let parts = and_parts (leb from f.first) (are_in_order (f.first + f.length) end fs) o in
    omega (arith, leb-true _ _ parts.0, order_ends (f.first + f.length) end fs parts.1)

-- no field stands before the first
pub none_before : (from end k : ℕ) (fs : List Field) → are_in_order from end fs ≡ true → k < from →
    have fs k ≡ false
none_before from end k [] o h = refl
none_before from end k (f ∷ fs) o h =
    let parts = and_parts (leb from f.first) (are_in_order (f.first + f.length) end fs) o in
    let le : from ≤ f.first = leb-true _ _ parts.0 in
    or_from (has f k) (have fs k)
    (and_left (leb f.first k) (ltb k (f.first + f.length)) (lt-leb _ _ (omega arith)))
    (none_before (f.first + f.length) end k fs parts.1 (omega arith))

pub none_after : (f : Field) (fs : List Field) (end k : ℕ) →
    are_in_order (f.first + f.length) end fs ≡ true → has f k ≡ true → have fs k ≡ false
none_after f fs end k o h =
    let parts = and_parts (leb f.first k) (ltb k (f.first + f.length)) h in
    none_before (f.first + f.length) end k fs o (ltb-true _ _ parts.1)

count_none : (p : Field → Bool) (fs : List Field) → list_any p fs ≡ false → count_by p fs ≡ 0
count_none p [] none = refl
count_none p (f ∷ fs) none =
    let parts = or_parts (p f) (list_any p fs) none in
    let more : count_by p (f ∷ fs) ≡ cond {A = ℕ} (p f) 1 0 + count_by p fs =
    sum_by-cons (λ x. cond {A = ℕ} (p x) 1 0) f fs in
    let here : cond {A = ℕ} (p f) 1 0 ≡ 0 = ap (λ b. cond {A = ℕ} b 1 0) parts.0 in
    let rest : count_by p fs ≡ 0 = count_none p fs parts.1 in
    omega arith

-- the byte that no field has is zero
pub byte_at_none : (fs : List Field) (k : ℕ) → have fs k ≡ false → byte_at fs k ≡ 0
byte_at_none [] k none = refl
byte_at_none (f ∷ fs) k none =
    elim (has f k) as (λ b. (b ≡ has f k) → cond b (byte_in f k) (byte_at fs k) ≡ 0) [
      | true ↦ λ e. absurd (let no : false ≡ true = sym none ∙ ap (λ b. b || have fs k) (sym e) in cc)
      | false ↦ λ e. byte_at_none fs k (ap (λ b. b || have fs k) e ∙ none)
    ] refl

-- at most one field has a position
pub one_at_most : (from end k : ℕ) (fs : List Field) → are_in_order from end fs ≡ true →
    count_by (λ f. has f k) fs ≤ 1
one_at_most from end k [] o = omega arith
one_at_most from end k (f ∷ fs) o =
    let parts = and_parts (leb from f.first) (are_in_order (f.first + f.length) end fs) o in
    let more : count_by (λ f. has f k) (f ∷ fs) ≡ cond {A = ℕ} (has f k) 1 0 + count_by (λ f. has f k) fs =
    sum_by-cons (λ f. cond {A = ℕ} (has f k) 1 0) f fs in
    by_way (cases_Bool (has f k))
    (λ here.
    let rest : count_by (λ f. has f k) fs ≡ 0 =
    count_none (λ f. has f k) fs (none_after f fs end k parts.1 here) in
    let one : cond {A = ℕ} (has f k) 1 0 ≡ 1 = ap (λ b. cond {A = ℕ} b 1 0) here in
    omega arith)
    (λ not_here.
    let rest : count_by (λ f. has f k) fs ≤ 1 = one_at_most (f.first + f.length) end k fs parts.1 in
    let none : cond {A = ℕ} (has f k) 1 0 ≡ 0 = ap (λ b. cond {A = ℕ} b 1 0) not_here in
    omega arith)

-- the byte of a position that a field has is the field's
pub byte_at_field : (from end k : ℕ) (fs : List Field) (i : ℕ) (f : Field) →
    are_in_order from end fs ≡ true → i < length fs → get_or fs i f ≡ f → has f k ≡ true →
    byte_at fs k ≡ byte_in f k
byte_at_field from end k [] i f o h e p = absurd (omega arith)
byte_at_field from end k (g ∷ gs) zero f o h e p =
    ap (λ x. cond (has x k) (byte_in x k) (byte_at gs k)) e ∙ ap (λ b. cond b (byte_in f k) (byte_at gs k)) p
byte_at_field from end k (g ∷ gs) (suc i) f o h e p =
    let parts = and_parts (leb from g.first) (are_in_order (g.first + g.length) end gs) o in
    let later : have gs k ≡ true =
    list_any_at (λ x. has x k) gs i f (omega arith) (ap (λ x. has x k) e ∙ p) in
    let other : has g k ≡ false =
    false_from_ne_true (has g k) (λ here. let no : false ≡ true = sym (none_after g gs end k parts.1 here)
    ∙ later in cc) in
    ap (λ b. cond b (byte_in g k) (byte_at gs k)) other
    ∙ byte_at_field (g.first + g.length) end k gs i f parts.1 (omega arith) e p

-- one more field at the end
pub with_fields_more : (fs : List Field) (f : Field) (bytes : List ℕ) →
    with_fields (fs ++ f ∷ []) bytes ≡ with_field f (with_fields fs bytes)
with_fields_more [] f bytes = refl
with_fields_more (g ∷ fs) f bytes = with_fields_more fs f (with_field g bytes)

-- ---- the block

-- fields in order leave what the table says, and all other bytes as they were
pub get_or-with_fields : (from : ℕ) (fs : List Field) (bytes : List ℕ) (k : ℕ) →
    are_in_order from (length bytes) fs ≡ true →
    get_or (with_fields fs bytes) k 0 ≡ cond (have fs k) (byte_at fs k) (get_or bytes k 0)
get_or-with_fields from [] bytes k o = refl
get_or-with_fields from (f ∷ fs) bytes k o =
    let parts = and_parts (leb from f.first) (are_in_order (f.first + f.length) (length bytes) fs) o in
    let inside : f.first + f.length ≤ length bytes = order_ends _ _ fs parts.1 in
    let size : length (with_field f bytes) ≡ length bytes = length-with_field f bytes inside in
    let rest = get_or-with_fields (f.first + f.length) fs (with_field f bytes) k
    (ap (λ n. are_in_order (f.first + f.length) n fs) size ∙ parts.1) in
    let one = get_or-with_field f bytes k inside in
    rest ∙ elim (has f k) as (λ b. b ≡ has f k →
    cond (have fs k) (byte_at fs k) (get_or (with_field f bytes) k 0) ≡
    cond (b || have fs k) (cond b (byte_in f k) (byte_at fs k)) (get_or bytes k 0)) [
      | true ↦ λ e.
          ap (λ b. cond b (byte_at fs k) (get_or (with_field f bytes) k 0))
          (none_after f fs (length bytes) k parts.1 (sym e))
          ∙ one ∙ ap (λ b. cond b (byte_in f k) (get_or bytes k 0)) (sym e)
      | false ↦ λ e. ap (λ x. cond (have fs k) (byte_at fs k) x) (one
          ∙ ap (λ b. cond b (byte_in f k) (get_or bytes k 0)) (sym e))
    ] refl

pub length-with_fields : (from : ℕ) (fs : List Field) (bytes : List ℕ) →
    are_in_order from (length bytes) fs ≡ true → length (with_fields fs bytes) ≡ length bytes
length-with_fields from [] bytes o = refl
length-with_fields from (f ∷ fs) bytes o =
    let parts = and_parts (leb from f.first) (are_in_order (f.first + f.length) (length bytes) fs) o in
    let size : length (with_field f bytes) ≡ length bytes =
    length-with_field f bytes (order_ends _ _ fs parts.1) in
    length-with_fields (f.first + f.length) fs (with_field f bytes)
    (ap (λ n. are_in_order (f.first + f.length) n fs) size ∙ parts.1) ∙ size

-- the fields of a block stand in order
pub block_order : (why : Why) (nest : List Begin) (general : List ℕ) (at : ℕ) →
    are_in_order 0 256 (fields why nest general at) ≡ true
unfolding fields register_fields
block_order why nest general at = refl

-- written into zeros, they make the block
pub block_is : (why : Why) (nest : List Begin) (general : List ℕ) (at : ℕ) (zeros : List ℕ) →
    length zeros ≡ 256 → ((k : ℕ) → k < 256 → get_or zeros k 0 ≡ 0) →
    with_fields (fields why nest general at) zeros ≡ block why nest general at
unfolding block
block_is why nest general at zeros size empty =
    let fs = fields why nest general at in
    let order : are_in_order 0 (length zeros) fs ≡ true = ap (λ n. are_in_order 0 n fs) size
    ∙ block_order why nest general at in
    fill_by_all (byte_at fs) (with_fields fs zeros) 256 0 (length-with_fields 0 fs zeros order ∙ size)
    (λ k h. get_or-with_fields 0 fs zeros k order ∙ by_way (cases_Bool (have fs k))
    (λ some. ap (λ b. cond b (byte_at fs k) (get_or zeros k 0)) some)
    (λ none. ap (λ b. cond b (byte_at fs k) (get_or zeros k 0)) none ∙ empty k h
    ∙ sym (byte_at_none fs k none)))

-- all sixteen registers
pub all_registers : (general : List ℕ) (count : ℕ) → count ≡ 16 →
    map (register_field general) (range_with_len 0 count) ≡ register_fields general
unfolding register_fields
all_registers general count e = ap (λ n. map (register_field general) (range_with_len 0 n)) e

-- ---- laws

pub length-block : (why : Why) (nest : List Begin) (general : List ℕ) (at : ℕ) →
    length (block why nest general at) ≡ 256
unfolding block
length-block why nest general at = length-map-range_with_len (byte_at (fields why nest general at)) 0 256

get_or-block : (why : Why) (nest : List Begin) (general : List ℕ) (at k : ℕ) → k < 256 →
    get_or (block why nest general at) k 0 ≡ byte_at (fields why nest general at) k
unfolding block
get_or-block why nest general at k h =
    get_or-map-range_with_len (byte_at (fields why nest general at)) 0 256 k k 0 h (omega arith)

-- no field reaches past the end
ends_before : (from end k : ℕ) (fs : List Field) (i : ℕ) (f : Field) → are_in_order from end fs ≡ true →
    i < length fs → get_or fs i f ≡ f → has f k ≡ true → k < end
ends_before from end k [] i f o h e p = absurd (omega arith)
ends_before from end k (g ∷ gs) zero f o h e p =
    let parts = and_parts (leb from g.first) (are_in_order (g.first + g.length) end gs) o in
    let last : g.first + g.length ≤ end = order_ends _ _ gs parts.1 in
    let here : has g k ≡ true = ap (λ x. has x k) e ∙ p in
    omega (arith, ltb-true _ _ (and_parts (leb g.first k) (ltb k (g.first + g.length)) here).1)
ends_before from end k (g ∷ gs) (suc i) f o h e p =
    let parts = and_parts (leb from g.first) (are_in_order (g.first + g.length) end gs) o in
    ends_before (g.first + g.length) end k gs i f parts.1 (omega arith) e p

pub block_has : (why : Why) (nest : List Begin) (general : List ℕ) (at k : ℕ) (f : Field) →
    Contains (fields why nest general at) f → has f k ≡ true →
    get_or (block why nest general at) k 0 ≡ byte_in f k
block_has why nest general at k f there here =
    let fs = fields why nest general at in
    let order = block_order why nest general at in
    get_or-block why nest general at k (ends_before 0 256 k fs there.0 f order there.1 there.2 here)
    ∙ byte_at_field 0 256 k fs there.0 f order there.1 there.2 here

some_of_count : (p : Field → Bool) (fs : List Field) → count_by p fs ≡ 0 → list_any p fs ≡ false
some_of_count p [] none = refl
some_of_count p (f ∷ fs) none =
    let more : count_by p (f ∷ fs) ≡ cond {A = ℕ} (p f) 1 0 + count_by p fs =
    sum_by-cons (λ x. cond {A = ℕ} (p x) 1 0) f fs in
    by_way (cases_Bool (p f))
    (λ yes. let one : cond {A = ℕ} (p f) 1 0 ≡ 1 = ap (λ b. cond {A = ℕ} b 1 0) yes in absurd (omega arith))
    (λ no. or_from (p f) (list_any p fs) no (some_of_count p fs (omega arith)))

pub block_zero : (why : Why) (nest : List Begin) (general : List ℕ) (at k : ℕ) →
    count_by (λ f. has f k) (fields why nest general at) ≡ 0 → get_or (block why nest general at) k 0 ≡ 0
block_zero why nest general at k none =
    let fs = fields why nest general at in
    by_way (cases_lt k 256)
    (λ inside. get_or-block why nest general at k inside
    ∙ byte_at_none fs k (some_of_count (λ f. has f k) fs none))
    (λ past. get_or_past (block why nest general at) k 0 (omega (arith, length-block why nest general at)))
