-- Bytes that are written one after the other.
use Rattle.std.proofs.Common.{◌≡◌, ℕ, ◌<◌, ◌≤◌, ◌+◌, ◌-◌, List, [], ◌∷◌, ◌++◌, length, get_or, set, take, drop}
use Rattle.std.proofs.Common.{sym, ap, ◌∙◌, arith, length-append, length-drop, append_assoc, append-nil}
use Rattle.std.proofs.Common.{drop-drop}
use Rattle.std.proofs.lemmas.List.{take_more, take_at, set_at, drop_more, length-take-le, take-append-drop, get_or_append_left, get_or-append_right, get_or-take, get_or-drop}
use Rattle.std.proofs.lemmas.List.{places}
use Rattle.std.proofs.Math.Seq.{drop-append-add}
use Rattle.std.proofs.Math.Nat.{add-zero}
use Rattle.z_regs.specs.Written.{range_at, written}

-- what stands before the part behind
length-before : (s : List ℕ) (first : ℕ) (bytes : List ℕ) → first ≤ length s →
    length (take first s ++ bytes) ≡ first + length bytes
length-before s first bytes h = grind (arith, length-append (take first s) bytes, length-take-le first s h)

pub length-written : (s : List ℕ) (first : ℕ) (bytes : List ℕ) → first + length bytes ≤ length s →
    length (written s first bytes) ≡ length s
length-written s first bytes h =
    grind (
      arith,
      length-append (take first s ++ bytes) (drop (first + length bytes) s),
      length-before s first bytes (omega arith),
      length-drop (first + length bytes) s,
    )

pub below : (s : List ℕ) (first : ℕ) (bytes : List ℕ) (k : ℕ) → first ≤ length s → k < first →
    get_or (written s first bytes) k 0 ≡ get_or s k 0
below s first bytes k h l =
    get_or_append_left (take first s ++ bytes) (drop (first + length bytes) s) 0 k
    (omega (arith, length-before s first bytes h))
    ∙ get_or_append_left (take first s) bytes 0 k (omega (arith, length-take-le first s h))
    ∙ get_or-take first s k 0 l

pub above : (s : List ℕ) (first : ℕ) (bytes : List ℕ) (k : ℕ) → first ≤ length s → first + length bytes ≤ k →
    get_or (written s first bytes) k 0 ≡ get_or s k 0
above s first bytes k h l =
    get_or-append_right (take first s ++ bytes) (drop (first + length bytes) s) (first + length bytes) k 0
    (length-before s first bytes h) l
    ∙ get_or-drop (first + length bytes) s (k - (first + length bytes)) 0
    ∙ ap (λ j. get_or s j 0) (omega arith)

pub inside : (s : List ℕ) (first : ℕ) (bytes : List ℕ) (k : ℕ) → first ≤ length s → k < length bytes →
    get_or (written s first bytes) (first + k) 0 ≡ get_or bytes k 0
inside s first bytes k h l = grind (arith, places)

-- none
pub written_none : (s : List ℕ) (first : ℕ) → s ≡ written s first []
written_none s first =
    sym
    (ap (λ k. take first s ++ [] ++ drop k s) (add-zero first)
    ∙ ap (λ t. t ++ drop first s) (append-nil (take first s))
    ∙ take-append-drop first s)

-- bytes written right behind others
pub written_then : (s : List ℕ) (first : ℕ) (xs ys : List ℕ) → first ≤ length s →
    written (written s first xs) (first + length xs) ys ≡ written s first (xs ++ ys)
written_then s first xs ys h =
    let head = take first s ++ xs in
    let rest = drop (first + length xs) s in
    let size : length head ≡ first + length xs = length-before s first xs h in
    let seam : first + length (xs ++ ys) ≡ first + length xs + length ys =
    omega (arith, length-append xs ys) in
    let behind : drop (first + length xs + length ys) (head ++ rest) ≡ drop (first + length (xs ++ ys)) s =
    ap (λ n. drop (n + length ys) (head ++ rest)) (sym size)
    ∙ drop-append-add head rest (length ys)
    ∙ drop-drop (length ys) (first + length xs) s
    ∙ ap (λ n. drop n s) (sym seam) in
    ap (λ t. t ++ ys ++ drop (first + length xs + length ys) (head ++ rest))
    (take_at head rest (first + length xs) size)
    ∙ ap (λ t. head ++ ys ++ t) behind
    ∙ ap (λ t. t ++ drop (first + length (xs ++ ys)) s) (append_assoc (take first s) xs ys)

-- one byte changed is one byte written
pub set_is_written : (s : List ℕ) (k b : ℕ) → k < length s → set s k b ≡ written s k (b ∷ [])
set_is_written s k b h =
    ap (λ t. set t k b) (sym (take-append-drop k s) ∙ ap (λ t. take k s ++ t) (drop_more s k 0 h))
    ∙ set_at (take k s) (get_or s k 0) (drop (k + 1) s) b k (length-take-le k s (omega arith))
    ∙ sym (append_assoc (take k s) (b ∷ []) (drop (k + 1) s))

-- one byte more, behind those that were written
pub written_more : (s : List ℕ) (first : ℕ) (bytes : List ℕ) (b : ℕ) → first + length bytes < length s →
    set (written s first bytes) (first + length bytes) b ≡ written s first (bytes ++ b ∷ [])
written_more s first bytes b h =
    let size : first + length bytes < length (written s first bytes) =
    omega (
      arith,
      length-append (take first s ++ bytes) (drop (first + length bytes) s),
      length-before s first bytes (omega arith),
      length-drop (first + length bytes) s,
    ) in
    set_is_written (written s first bytes) (first + length bytes) b size
    ∙ written_then s first bytes (b ∷ []) (omega arith)

-- bytes that are written back as they were
pub written_same : (s : List ℕ) (first n : ℕ) → first + n ≤ length s → written s first (range_at s first n) ≡
    s
written_same s first n h =
    let size : length (range_at s first n) ≡ n =
    length-take-le n (drop first s) (omega (arith, length-drop first s)) in
    ap (λ k. take first s ++ range_at s first n ++ drop (first + k) s) size
    ∙ append_assoc (take first s) (range_at s first n) (drop (first + n) s)
    ∙ ap (λ t. take first s ++ (range_at s first n ++ t)) (sym (drop-drop n first s))
    ∙ ap (λ t. take first s ++ t) (take-append-drop n (drop first s))
    ∙ take-append-drop first s

-- a step of a loop that writes bytes from the left
pub write_step : (s now bytes : List ℕ) (first k : ℕ) → k < length bytes → first + length bytes ≤ length s →
    now ≡ written s first (take k bytes)
    → set now (first + k) (get_or bytes k 0) ≡ written s first (take (k + 1) bytes)
write_step s now bytes first k h l e =
    let size : length (take k bytes) ≡ k = length-take-le k bytes (omega arith) in
    ap (λ t. set t (first + k) (get_or bytes k 0)) e
    ∙ ap (λ j. set (written s first (take k bytes)) (first + j) (get_or bytes k 0)) (sym size)
    ∙ written_more s first (take k bytes) (get_or bytes k 0) (omega (arith, size))
    ∙ ap (written s first) (sym (take_more bytes k 0 h))
