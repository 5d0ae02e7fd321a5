-- The rightmost bytes of a number, and the number in the first bytes of a list.
use Rattle.std.proofs.Common.{append-nil, inl, inr, refl, ◌≡◌, ℕ, zero, suc, ◌+◌, ◌-◌, ◌*◌, ◌/◌, ◌^◌, ◌<◌, ◌≤◌, List, [], ◌∷◌, ◌++◌, length, take, drop, get_or, set, ap, sym, ◌∙◌, arith}
use Rattle.std.specs.Int.{byte_at, bytes_high_first}
use Rattle.std.proofs.lemmas.List.{take_all, take_more, take_more_set, length-drop, get_or-drop}
use Rattle.byteorder.specs.Endian.{big_from, big_number, big_bytes}
use Rattle.byteorder.specs.Numbers.{big_from-cons, big_from-lt, big_from-take, big_number-reads_back, length-bytes_high_first}
use Rattle.std.proofs.Math.Nat.{add-mul, mod-lt, mul-le-mul_right}
use Rattle.std.proofs.lemmas.Bool.{cases_lt}
use Rattle.z_regs.specs.Written.{range_at}

-- without its first bytes
without_first : (k m n v : ℕ) → m ≡ k + n → drop k (bytes_high_first m v) ≡ bytes_high_first n v
without_first zero m n v e = ap (λ j. bytes_high_first j v) (let f : m ≡ n = omega (arith, e) in f)
without_first (suc k) zero n v e = absurd (omega (arith, e))
without_first (suc k) (suc m) n v e = without_first k m n v (omega (arith, e))

pub rightmost : (n v : ℕ) (item : List ℕ) → item ≡ big_bytes 8 v → n ≤ 8 →
    drop (8 - n) item ≡ big_bytes n v
rightmost n v item e h = ap (drop (8 - n)) e ∙ without_first (8 - n) 8 n v (omega arith)

-- and with the length that a slice has
pub slice_rightmost : (n v : ℕ) (item : List ℕ) → item ≡ big_bytes 8 v → n ≤ 8 →
    take (8 - (8 - n)) (drop (8 - n) item) ≡ big_bytes n v
slice_rightmost n v item e h =
    let tail = rightmost n v item e h in
    ap (take (8 - (8 - n))) tail
    ∙ take_all (8 - (8 - n)) (big_bytes n v) (omega (arith, length-bytes_high_first n v))

-- a number reads no byte behind its own
pub number_of_range : (n : ℕ) (s : List ℕ) (a : ℕ) → big_number n (drop a s) ≡ big_number n (range_at s a n)
number_of_range n s a = sym (big_from-take 0 n n (drop a s) (omega arith))

-- one byte more is copied
pub copied_more : (item seen : List ℕ) (a k x : ℕ) → k < length item → a + k < length seen →
    take k item ≡ range_at seen a k → x ≡ get_or seen (a + k) 0 →
    take (k + 1) (set item k x) ≡ range_at seen a (k + 1)
copied_more item seen a k x h l e f =
    take_more_set item k x h
    ∙ ap (λ t. t ++ x ∷ []) e
    ∙ ap (λ b. range_at seen a k ++ b ∷ []) (f ∙ sym (get_or-drop a seen k 0))
    ∙ sym (take_more (drop a seen) k 0 (omega (arith, length-drop a seen, l)))

-- the number in bytes that were copied
pub number_copied : (n : ℕ) (item seen : List ℕ) (a : ℕ) → take n item ≡ range_at seen a n →
    big_number n item ≡ big_number n (range_at seen a n)
number_copied n item seen a e = sym (big_from-take 0 n n item (omega arith)) ∙ ap (big_number n) e

-- ---- bytes back from their number

pub byte_small : (k v : ℕ) → byte_at k v < 256
byte_small zero v = mod-lt v (omega arith)
byte_small (suc k) v = mod-lt (v / 256 ^ suc k) (omega arith)

bytes_small : (n v i : ℕ) → get_or (bytes_high_first n v) i 0 < 256
bytes_small zero v i = omega arith
bytes_small (suc n) v zero = byte_small n v
bytes_small (suc n) v (suc i) = bytes_small n v i

-- the first digit and the rest are told by the number
digit_less : (x y a b p : ℕ) → a < p → x < y → x * p + a ≡ y * p + b → ⊥
digit_less x y a b p h l e =
    let next : (x + 1) * p ≤ y * p = mul-le-mul_right p (omega (arith, l)) in
    let split : (x + 1) * p ≡ x * p + 1 * p = add-mul x 1 p in
    omega (arith, next, split, h, e)

same_digit : (x y a b p : ℕ) → a < p → b < p → x * p + a ≡ y * p + b → x ≡ y
same_digit x y a b p h k e = elim (cases_lt x y) [
  | inl less ↦ absurd (digit_less x y a b p h less e)
  | inr more ↦ elim (cases_lt y x) [
    | inl less ↦ absurd (digit_less y x b a p k less (sym e))
    | inr same ↦ omega (arith, more, same)
  ]
]

-- bytes of one number are the same
same_bytes_of : (n : ℕ) (xs ys : List ℕ) → ((i : ℕ) → get_or xs i 0 < 256) → ((i : ℕ) → get_or ys i 0 < 256) →
    n ≤ length xs → n ≤ length ys → big_number n xs ≡ big_number n ys → take n xs ≡ take n ys
same_bytes_of zero xs ys f g l m e = refl
same_bytes_of (suc n) [] ys f g l m e = absurd (omega (arith, l))
same_bytes_of (suc n) (x ∷ xs) [] f g l m e = absurd (omega (arith, m))
same_bytes_of (suc n) (x ∷ xs) (y ∷ ys) f g l m e =
    let left = big_from-cons 0 n x xs in
    let right = big_from-cons 0 n y ys in
    let below_left : big_from 0 n xs < 256 ^ n = big_from-lt 0 n xs (λ i. f (suc i)) in
    let below_right : big_from 0 n ys < 256 ^ n = big_from-lt 0 n ys (λ i. g (suc i)) in
    let whole : x * 256 ^ n + big_from 0 n xs ≡ y * 256 ^ n + big_from 0 n ys =
    ap (λ r. x * 256 ^ n + r) (sym left) ∙ e ∙ ap (λ r. y * 256 ^ n + r) right in
    let head : x ≡ y = same_digit x y _ _ (256 ^ n) below_left below_right whole in
    let rest : big_from 0 n xs ≡ big_from 0 n ys =
    let moved = ap (λ d. d * 256 ^ n) head in omega (arith, whole, moved) in
    let tail : take n xs ≡ take n ys =
    same_bytes_of n xs ys (λ i. f (suc i)) (λ i. g (suc i)) (omega (arith, l)) (omega (arith, m)) rest in
    ap (λ t. x ∷ t) tail ∙ ap (λ d. d ∷ take n ys) head

-- bytes are those of their number
pub bytes_back : (n : ℕ) (xs : List ℕ) → ((i : ℕ) → get_or xs i 0 < 256) → n ≤ length xs →
    big_bytes n (big_number n xs) ≡ take n xs
bytes_back n xs h l =
    let v = big_number n xs in
    let many : length (big_bytes n v) ≡ n = length-bytes_high_first n v in
    let fits : v < 256 ^ n = big_from-lt 0 n xs h in
    let again : big_number n (big_bytes n v) ≡ v =
    ap (big_number n) (sym (append-nil (big_bytes n v))) ∙ big_number-reads_back n v [] fits in
    sym (take_all n (big_bytes n v) (omega (arith, many)))
    ∙ same_bytes_of n (big_bytes n v) xs (bytes_small n v) h (omega (arith, many)) l again
