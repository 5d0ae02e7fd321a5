-- The order of bytes: some of them at a time, and as the numbers that they are.
use Rattle.std.proofs.Common.{◌≡◌, ℕ, zero, suc, ◌<◌, ◌≤◌, ◌+◌, ◌-◌, ◌*◌, ◌^◌, List, [], ◌∷◌, ◌++◌, length}
use Rattle.std.proofs.Common.{take, drop, true, false, nat_eq, nat_lt, slice_index, refl, sym, ap, subst, ◌∙◌, arith, eq-eqb}
use Rattle.std.proofs.Common.{ne_eqb, ◌≢◌, drop-drop}
use Rattle.std.proofs.lemmas.Bool.{cases_eq, cases_lt, lt-ltb, le-ltb}
use Rattle.std.proofs.Math.Nat.{add-mul, mul-le-mul_right, mod-lt}
use Rattle.std.proofs.Math.Seq.{take-add, take-length}
use Rattle.byteorder.specs.Endian.{big_from, big_bytes, big_number}
use Rattle.byteorder.specs.Numbers.{big_from-cons, big_from-lt, length-bytes_high_first}
use borrow.Enum.Arm.{by_way}
use Rattle.z_arith.specs.Comparison.{compare_logical_of}
use Rattle.z_effect.specs.StorageEffect.{order_of_bytes}
use Rattle.z_effect.specs.After.{range_at}
use Rattle.z_regs.proofs.OneArea.{length-range_at}

-- ---- two numbers

code_low : (a b : ℕ) → a < b → compare_logical_of a b ≡ 1
unfolding compare_logical_of
code_low a b h = let e : nat_lt a b ≡ true = lt-ltb a b h in rw e refl

code_equal : (a b : ℕ) → a ≡ b → compare_logical_of a b ≡ 0
unfolding compare_logical_of
code_equal a b h =
    let e : nat_lt a b ≡ false = le-ltb a b (omega (arith, h)) in
    let f : nat_eq a b ≡ true = eq-eqb a b h in
    rw (e, f) refl

code_high : (a b : ℕ) → b < a → compare_logical_of a b ≡ 2
unfolding compare_logical_of
code_high a b h =
    let e : nat_lt a b ≡ false = le-ltb a b (omega arith) in
    let f : nat_eq a b ≡ false = ne_eqb a b (λ w. absurd (omega (arith, w, h))) in
    rw (e, f) refl

code_differs : (a b : ℕ) → a ≢ b → compare_logical_of a b ≢ 0
code_differs a b ne zero_code =
    by_way (cases_lt a b)
    (λ low. absurd (omega (arith, code_low a b low, zero_code)))
    (λ from. absurd (omega (arith, code_high a b (omega (arith, from, ne)), zero_code)))

-- the same numbers in front
code_behind : (p x y : ℕ) → compare_logical_of x y ≡ compare_logical_of (p + x) (p + y)
code_behind p x y =
    by_way (cases_lt x y)
    (λ low. code_low x y low ∙ sym (code_low (p + x) (p + y) (omega (arith, low))))
    (λ from. by_way (cases_eq x y)
    (λ e. code_equal x y e ∙ sym (code_equal (p + x) (p + y) (omega (arith, e))))
    (λ ne. code_high x y (omega (arith, from, ne))
    ∙ sym (code_high (p + x) (p + y) (omega (arith, from, ne)))))

-- ---- lists

order_front_equal : (x y : ℕ) (a b : List ℕ) → x ≡ y → order_of_bytes (x ∷ a) (y ∷ b) ≡ order_of_bytes a b
unfolding order_of_bytes
order_front_equal x y a b e = let t : nat_eq x y ≡ true = eq-eqb x y e in rw t refl

order_front_differs : (x y : ℕ) (a b : List ℕ) → x ≢ y
    → order_of_bytes (x ∷ a) (y ∷ b) ≡ compare_logical_of x y
unfolding order_of_bytes
order_front_differs x y a b ne = let t : nat_eq x y ≡ false = ne_eqb x y ne in rw t refl

order_none : (b : List ℕ) → order_of_bytes [] b ≡ 0
unfolding order_of_bytes
order_none b = refl

-- equal bytes leave it to those behind them
order_behind : (a b c d : List ℕ) → length a ≡ length c → order_of_bytes a c ≡ 0
    → order_of_bytes (a ++ b) (c ++ d) ≡ order_of_bytes b d
order_behind [] b [] d size equal = refl
order_behind [] b (y ∷ c) d size equal = absurd (omega (arith, size))
order_behind (x ∷ a) b [] d size equal = absurd (omega (arith, size))
order_behind (x ∷ a) b (y ∷ c) d size equal =
    by_way (cases_eq x y)
    (λ e. order_front_equal x y (a ++ b) (c ++ d) e
    ∙ order_behind a b c d (omega (arith, size)) (sym (order_front_equal x y a c e) ∙ equal))
    (λ ne. absurd (code_differs x y ne (sym (order_front_differs x y a c ne) ∙ equal)))

-- unequal ones decide
order_before : (a b c d : List ℕ) → length a ≡ length c → order_of_bytes a c ≢ 0
    → order_of_bytes (a ++ b) (c ++ d) ≡ order_of_bytes a c
order_before [] b c d size differ = absurd (differ (order_none c))
order_before (x ∷ a) b [] d size differ = absurd (omega (arith, size))
order_before (x ∷ a) b (y ∷ c) d size differ =
    by_way (cases_eq x y)
    (λ e. order_front_equal x y (a ++ b) (c ++ d) e
    ∙ order_before a b c d (omega (arith, size)) (λ w. differ (order_front_equal x y a c e ∙ w))
    ∙ sym (order_front_equal x y a c e))
    (λ ne. order_front_differs x y (a ++ b) (c ++ d) ne ∙ sym (order_front_differs x y a c ne))

-- ---- what is left of two lists

-- what is left of two lists after j bytes, of n
abbrev pub left : List ℕ → List ℕ → ℕ → ℕ → ℕ
left s t j n = order_of_bytes (range_at s j (n - j)) (range_at t j (n - j))

range_split : (s : List ℕ) (j c n : ℕ) → j + c ≤ n
    → range_at s j (n - j) ≡ range_at s j c ++ range_at s (j + c) (n - (j + c))
range_split s j c n h =
    let e : n - j ≡ c + (n - (j + c)) = omega arith in
    ap (λ k. take k (drop j s)) e
    ∙ take-add c (n - (j + c)) (drop j s)
    ∙ ap (λ u. range_at s j c ++ take (n - (j + c)) u) (drop-drop c j s)

module _ (s t : List ℕ) (j c n : ℕ) where
  split_both : j + c ≤ n → left s t j n
      ≡ order_of_bytes (range_at s j c ++ range_at s (j + c) (n - (j + c)))
      (range_at t j c ++ range_at t (j + c) (n - (j + c)))
  split_both h =
      ap (λ x. order_of_bytes x (range_at t j (n - j))) (range_split s j c n h)
      ∙ ap (order_of_bytes (range_at s j c ++ range_at s (j + c) (n - (j + c))))
      (range_split t j c n h)

  same_size : j + c ≤ n → n ≤ length s → n ≤ length t
      → length (range_at s j c) ≡ length (range_at t j c)
  same_size h p q = length-range_at s j c (omega arith) ∙ sym (length-range_at t j c (omega arith))

  -- equal bytes leave it to those behind them
  pub order_equal : j + c ≤ n → n ≤ length s → n ≤ length t
      → order_of_bytes (range_at s j c) (range_at t j c) ≡ 0
      → left s t j n ≡ left s t (j + c) n
  order_equal h p q equal =
      split_both h
      ∙ order_behind (range_at s j c) (range_at s (j + c) (n - (j + c)))
      (range_at t j c) (range_at t (j + c) (n - (j + c))) (same_size h p q) equal

  -- unequal ones decide
  pub order_differs : j + c ≤ n → n ≤ length s → n ≤ length t
      → order_of_bytes (range_at s j c) (range_at t j c) ≢ 0
      → left s t j n ≡ order_of_bytes (range_at s j c) (range_at t j c)
  order_differs h p q differ =
      split_both h
      ∙ order_before (range_at s j c) (range_at s (j + c) (n - (j + c)))
      (range_at t j c) (range_at t (j + c) (n - (j + c))) (same_size h p q) differ

  -- the last ones
  pub order_last : j + c ≡ n → left s t j n ≡ order_of_bytes (range_at s j c) (range_at t j c)
  order_last h =
      let e : n - j ≡ c = omega (arith, h) in
      ap (λ k. order_of_bytes (range_at s j k) (range_at t j k)) e

-- lists of no bytes are equal
pub order_end : (s t : List ℕ) (j n : ℕ) → n ≤ j → left s t j n ≡ 0
unfolding order_of_bytes
order_end s t j n h =
    let e : n - j ≡ 0 = omega arith in
    ap (λ k. order_of_bytes (range_at s j k) (range_at t j k)) e

-- at first all is left
pub order_whole : (s t : List ℕ) → length s ≡ length t → order_of_bytes s t ≡ left s t 0 (length s)
order_whole s t same =
    let mine : take (length s) s ≡ s = take-length s in
    let others : take (length s) t ≡ t = ap (λ n. take n t) same ∙ take-length t in
    let all : length s ≡ length s - 0 = omega arith in
    ap (λ x. order_of_bytes x t) (sym mine)
    ∙ ap (order_of_bytes (take (length s) s)) (sym others)
    ∙ ap (λ n. order_of_bytes (take n s) (take n t)) all

-- ---- numbers in bytes

-- the bytes in front decide
in_front : (p x y u v : ℕ) → x < y → u < p → x * p + u < y * p + v
in_front p x y u v h below =
    let most : (x + 1) * p ≤ y * p = mul-le-mul_right p (omega arith) in
    let expand : (x + 1) * p ≡ x * p + 1 * p = add-mul x 1 p in
    omega (arith, most, expand, below)

-- numbers have the order of their bytes, the leftmost first
order_as_numbers : (n : ℕ) (xs ys : List ℕ) → length xs ≡ n → length ys ≡ n
    → ((k : ℕ) → slice_index xs k < 256) → ((k : ℕ) → slice_index ys k < 256)
    → order_of_bytes xs ys ≡ compare_logical_of (big_number n xs) (big_number n ys)
order_as_numbers zero [] ys size other small few = order_none ys ∙ sym (code_equal 0 0 refl)
order_as_numbers zero (x ∷ xs) ys size other small few = absurd (omega (arith, size))
order_as_numbers (suc n) [] ys size other small few = absurd (omega (arith, size))
order_as_numbers (suc n) (x ∷ xs) [] size other small few = absurd (omega (arith, other))
order_as_numbers (suc n) (x ∷ xs) (y ∷ ys) size other small few =
    let p = 256 ^ n in
    let u = big_from 0 n xs in
    let v = big_from 0 n ys in
    let first : big_number (suc n) (x ∷ xs) ≡ x * p + u = ap (λ w. x * p + w) (big_from-cons 0 n x xs) in
    let second : big_number (suc n) (y ∷ ys) ≡ y * p + v = ap (λ w. y * p + w) (big_from-cons 0 n y ys) in
    let u_in : u < p = big_from-lt 0 n xs (λ k. small (suc k)) in
    let v_in : v < p = big_from-lt 0 n ys (λ k. few (suc k)) in
    let rest = order_as_numbers n xs ys (omega (arith, size)) (omega (arith, other)) (λ k. small (suc k))
    (λ k. few (suc k)) in
    by_way (cases_eq x y)
    (λ e. order_front_equal x y xs ys e ∙ rest ∙ code_behind (x * p) u v
    ∙ ap (λ w. compare_logical_of (x * p + u) (w * p + v)) e)
    (λ ne. order_front_differs x y xs ys ne ∙ by_way (cases_lt x y)
    (λ low. code_low x y low ∙ sym (code_low (x * p + u) (y * p + v) (in_front p x y u v low u_in)))
    (λ from. let high : y < x = omega (arith, from, ne) in
    code_high x y high ∙ sym (code_high (x * p + u) (y * p + v) (in_front p y x v u high v_in))))
    ∙ ap (λ w. compare_logical_of w (y * p + v)) (sym first)
    ∙ ap (compare_logical_of (big_number (suc n) (x ∷ xs))) (sym second)

small_bytes : (n x k : ℕ) → slice_index (big_bytes n x) k < 256
small_bytes zero x k = omega arith
small_bytes (suc zero) x zero = mod-lt x (omega arith)
small_bytes (suc (suc n)) x zero = mod-lt _ (omega arith)
small_bytes (suc n) x (suc k) = small_bytes n x k

-- two ranges as the numbers that were read of them
pub order_of_words : (n x y : ℕ) (xs ys : List ℕ) → big_bytes n x ≡ xs → big_bytes n y ≡ ys
    → x ≡ big_number n xs → y ≡ big_number n ys → compare_logical_of x y ≡ order_of_bytes xs ys
order_of_words n x y xs ys e f g h =
    ap (λ w. compare_logical_of w y) g
    ∙ ap (compare_logical_of (big_number n xs)) h
    ∙ sym (order_as_numbers n xs ys (ap length (sym e) ∙ length-bytes_high_first n x)
    (ap length (sym f) ∙ length-bytes_high_first n y)
    (subst (λ (l : List ℕ). (k : ℕ) → slice_index l k < 256) e (small_bytes n x))
    (subst (λ (l : List ℕ). (k : ℕ) → slice_index l k < 256) f (small_bytes n y)))

-- two ranges of which the same number was read
pub order_of_equal : (n x y : ℕ) (xs ys : List ℕ) → big_bytes n x ≡ xs → big_bytes n y ≡ ys
    → x ≡ big_number n xs → y ≡ big_number n ys → x ≡ y → 0 ≡ order_of_bytes xs ys
order_of_equal n x y xs ys e f g h same =
    sym (code_equal x y same) ∙ order_of_words n x y xs ys e f g h
