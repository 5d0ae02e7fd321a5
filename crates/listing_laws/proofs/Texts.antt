-- A text of lines, and the lines that the assembler cuts it into.
use Rattle.std.proofs.Common.{◌≡◌, ℕ, zero, suc, ◌+◌, ◌-◌, ◌*◌, ◌<◌, ◌≤◌, Bool, true, false, ◌&&◌, List}
use Rattle.std.proofs.Common.{[], ◌∷◌, ◌++◌}
use Rattle.std.proofs.Common.{length, map, take, refl, sym, ap, ap₂, ◌∙◌, arith, subst, lt-ltb}
use Rattle.std.proofs.Common.{append_assoc, length-append, eq-eqb}
use Rattle.std.specs.Prelude.{Ok, if◌then◌else◌, ◌==◌, nat_lt, slice_index}
use Rattle.std.specs.List.{list_all}
use Rattle.std.specs.Char.{to_ascii_uppercase}
use Rattle.std.proofs.lemmas.Bool.{and_parts, ne_eqb, ltb-true}
use Rattle.std.proofs.lemmas.List.{take_at}
use Rattle.z_text.specs.Line.{as_read}
use Rattle.z_fields.specs.Pieces.{pieces_by, onto, ends_with, shortened, without_return, without_end}
use Rattle.z_reading.specs.Listing.{Plan, line_gives}
use Rattle.z_reading.specs.Text.{lines_of}
use Rattle.z_assemble.specs.Whole.{First}
use Rattle.listing_laws.proofs.Words.{Word, map_over}
use Rattle.listing_laws.proofs.Lines.{line_with, IsSaid, visible_line, capital_line}

-- a line of words
pub record Line : Type 0 where
  pub label : List ℕ
  pub op : List ℕ
  pub ws : List Word
  pub said : IsSaid label op ws

abbrev pub written : Line → List ℕ
written l = line_with l.label l.op l.ws

abbrev pub ended : Line → List ℕ
ended l = written l ++ 10 ∷ []

abbrev pub text_of_lines : List Line → List ℕ
text_of_lines [] = []
text_of_lines (l ∷ ls) = ended l ++ text_of_lines ls

-- ---- pieces

pub not_end : (b : ℕ) → nat_lt 31 b ≡ true → (b == 10) ≡ false
not_end b h = let high : 31 < b = ltb-true 31 b h in ne_eqb b 10 (λ e. omega arith)

pub one_piece : (l rest : List ℕ) → list_all (λ b. nat_lt 31 b) l ≡ true
    → pieces_by 10 ((l ++ 10 ∷ []) ++ rest) ≡ (l ++ 10 ∷ []) ∷ pieces_by 10 rest
unfolding pieces_by
one_piece [] rest h = refl
one_piece (b ∷ bs) rest h =
    let parts = and_parts (nat_lt 31 b) (list_all (λ c. nat_lt 31 c) bs) h in
    ap (λ c. if c then (b ∷ []) ∷ pieces_by 10 ((bs ++ 10 ∷ []) ++ rest) else onto b (pieces_by 10 ((bs ++ 10
    ∷ []) ++ rest))) (not_end b parts.0)
    ∙ ap (onto b) (one_piece bs rest parts.1)

pieces_are : (ls : List Line) → pieces_by 10 (text_of_lines ls) ≡ map ended ls
unfolding pieces_by
pieces_are [] = refl
pieces_are (l ∷ ls) =
    one_piece (written l) (text_of_lines ls) (visible_line l.label l.op l.ws l.said)
    ∙ ap (λ (ps : List (List ℕ)). ended l ∷ ps) (pieces_are ls)

capital_text : (ls : List Line) → as_read (text_of_lines ls) ≡ text_of_lines ls
capital_text [] = refl
capital_text (l ∷ ls) =
    map_over to_ascii_uppercase (ended l) (text_of_lines ls)
    (map_over to_ascii_uppercase (written l) (10 ∷ []) (capital_line l.label l.op l.ws l.said) refl)
    (capital_text ls)

pub lines_are : (ls : List Line) → lines_of (text_of_lines ls) ≡ map ended ls
unfolding lines_of
lines_are ls = ap (pieces_by 10) (capital_text ls) ∙ pieces_are ls

-- ---- line ends

pub last_is : (l : List ℕ) (b : ℕ) → slice_index (l ++ b ∷ []) (length l) ≡ b
last_is [] b = refl
last_is (c ∷ l) b = last_is l b

pub ends_so : (l : List ℕ) (b : ℕ) → ends_with b (l ++ b ∷ []) ≡ true
ends_so l b =
    let size : length (l ++ b ∷ []) ≡ suc (length l) = omega (arith, length-append l (b ∷ [])) in
    let less : length (l ++ b ∷ []) - 1 ≡ length l = omega arith in
    ap₂ (λ (c : Bool) (x : ℕ). c && (x == b)) (lt-ltb 0 (length (l ++ b ∷ [])) (omega arith))
    (ap (slice_index (l ++ b ∷ [])) less ∙ last_is l b) ∙ eq-eqb b b refl

pub shortened_so : (l : List ℕ) (b : ℕ) → shortened (l ++ b ∷ []) ≡ l
shortened_so l b =
    let less : length (l ++ b ∷ []) - 1 ≡ length l = omega (arith, length-append l (b ∷ [])) in
    ap (λ n. take n (l ++ b ∷ [])) less ∙ take_at l (b ∷ []) (length l) refl

pub visible_at : (l : List ℕ) (i : ℕ) → list_all (λ b. nat_lt 31 b) l ≡ true → i < length l → 31 < slice_index l i
visible_at [] i h below = absurd (omega arith)
visible_at (b ∷ bs) zero h below = ltb-true 31 b (and_parts (nat_lt 31 b) (list_all (λ c. nat_lt 31 c) bs)
    h).0
visible_at (b ∷ bs) (suc i) h below = visible_at bs i (and_parts (nat_lt 31 b) (list_all (λ c. nat_lt 31 c)
    bs) h).1 (omega arith)

pub no_return : (l : List ℕ) → list_all (λ b. nat_lt 31 b) l ≡ true → ends_with 13 l ≡ false
no_return [] h = refl
no_return (b ∷ bs) h =
    let below : length (b ∷ bs) - 1 < length (b ∷ bs) = omega arith in
    let high = visible_at (b ∷ bs) (length (b ∷ bs) - 1) h below in
    ap₂ (λ (c d : Bool). c && d) (lt-ltb 0 (length (b ∷ bs)) (omega arith))
    (ne_eqb (slice_index (b ∷ bs) (length (b ∷ bs) - 1)) 13 (λ e. omega arith))

without_its_end : (l : Line) → without_end (ended l) ≡ written l
without_its_end l =
    ap (λ b. if b then without_return (shortened (ended l)) else ended l) (ends_so (written l) 10)
    ∙ ap without_return (shortened_so (written l) 10)
    ∙ ap (λ b. if b then shortened (written l) else written l) (no_return (written l) (visible_line l.label
    l.op l.ws l.said))

-- ---- the first reading over lines

abbrev pub Runs : ℕ → List Line → Plan → Plan → Type 0
Runs n [] p q = p ≡ q
Runs n (l ∷ ls) p q = (r : Plan) × (line_gives n (written l) p ≡ Ok r) × Runs (n + 1) ls r q

pub first_runs : (n : ℕ) (ls : List Line) (p q : Plan) → Runs n ls p q → First n (map ended ls) p q
first_runs n [] p q h = h
first_runs n (l ∷ ls) p q h =
    (h.0, ap (λ t. line_gives n t p) (without_its_end l) ∙ h.1, first_runs (n + 1) ls h.0 q h.2)

pub runs_on : (n : ℕ) (xs ys : List Line) (p r q : Plan) → Runs n xs p r → Runs (n + length xs) ys r q
    → Runs n (xs ++ ys) p q
runs_on n [] ys p r q h k =
    let same : n + 0 ≡ n = omega arith in
    subst (λ (s : Plan). Runs n ys s q) (sym h) (subst (λ m. Runs m ys r q) same k)
runs_on n (x ∷ xs) ys p r q h k =
    let same : n + suc (length xs) ≡ n + 1 + length xs = omega arith in
    (h.0, h.1, runs_on (n + 1) xs ys h.0 r q h.2 (subst (λ m. Runs m ys r q) same k))

-- ---- sizes

pub text_short : (ls : List Line) → length (text_of_lines ls) ≤ 121 * length ls
text_short [] = omega arith
text_short (l ∷ ls) =
    omega (
      arith,
      text_short ls,
      l.said.short,
      length-append (ended l) (text_of_lines ls),
      length-append
          (written l) (10 ∷ []),
    )

pub lines_count : (ls : List Line) → length (map ended ls) ≡ length ls
lines_count [] = refl
lines_count (l ∷ ls) = ap suc (lines_count ls)

pub text_append : (xs ys : List Line) → text_of_lines (xs ++ ys) ≡ text_of_lines xs ++ text_of_lines ys
text_append [] ys = refl
text_append (x ∷ xs) ys =
    ap (λ (t : List ℕ). ended x ++ t) (text_append xs ys) ∙ sym (append_assoc (ended x) (text_of_lines xs)
    (text_of_lines ys))
