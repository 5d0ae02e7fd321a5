-- A text of rows, and the lines that the assembler cuts it into.
use Rattle.std.proofs.Common.{◌≡◌, ℕ, suc, ◌+◌, ◌-◌, ◌*◌, ◌≤◌, true, List}
use Rattle.std.proofs.Common.{[], ◌∷◌, ◌++◌, length, map, refl, sym, ap, ◌∙◌, arith, subst}
use Rattle.std.proofs.Common.{append_assoc, length-append}
use Rattle.std.specs.Prelude.{Ok, if◌then◌else◌, nat_lt}
use Rattle.std.specs.List.{list_all}
use Rattle.z_text.specs.Line.{as_read}
use Rattle.z_fields.specs.Pieces.{pieces_by, shortened, without_return, without_end}
use Rattle.z_reading.specs.Listing.{Plan, line_gives}
use Rattle.z_reading.specs.Text.{lines_of}
use Rattle.z_assemble.specs.Whole.{First}
use Rattle.listing_laws.proofs.Texts.{ends_so, shortened_so, no_return, one_piece}

-- a line as it is read, without its end
pub record Row : Type 0 where
  pub text : List ℕ
  pub visible : list_all (λ b. nat_lt 31 b) text ≡ true
  pub short : length text ≤ 120

abbrev pub ended : Row → List ℕ
ended r = r.text ++ 10 ∷ []

abbrev pub text_of_rows : List Row → List ℕ
text_of_rows [] = []
text_of_rows (r ∷ rs) = ended r ++ text_of_rows rs

pub rows_append : (xs ys : List Row) → text_of_rows (xs ++ ys) ≡ text_of_rows xs ++ text_of_rows ys
rows_append [] ys = refl
rows_append (x ∷ xs) ys =
    ap (λ (t : List ℕ). ended x ++ t) (rows_append xs ys)
    ∙ sym (append_assoc (ended x) (text_of_rows xs) (text_of_rows ys))

-- ---- pieces

pieces_are : (rs : List Row) → pieces_by 10 (text_of_rows rs) ≡ map ended rs
unfolding pieces_by
pieces_are [] = refl
pieces_are (r ∷ rs) =
    one_piece r.text (text_of_rows rs) r.visible
    ∙ ap (λ (ps : List (List ℕ)). ended r ∷ ps) (pieces_are rs)

-- a text that is read as these rows has them as its lines
pub lines_are : (text : List ℕ) (rs : List Row) → as_read text ≡ text_of_rows rs → lines_of text ≡ map ended rs
unfolding lines_of
lines_are text rs is = ap (pieces_by 10) is ∙ pieces_are rs

-- ---- line ends

without_its_end : (r : Row) → without_end (ended r) ≡ r.text
without_its_end r =
    ap (λ b. if b then without_return (shortened (ended r)) else ended r) (ends_so r.text 10)
    ∙ ap without_return (shortened_so r.text 10)
    ∙ ap (λ b. if b then shortened r.text else r.text) (no_return r.text r.visible)

-- ---- the first reading over rows

abbrev pub Runs : ℕ → List Row → Plan → Plan → Type 0
Runs n [] p q = p ≡ q
Runs n (r ∷ rs) p q = (m : Plan) × (line_gives n r.text p ≡ Ok m) × Runs (n + 1) rs m q

pub first_runs : (n : ℕ) (rs : List Row) (p q : Plan) → Runs n rs p q → First n (map ended rs) p q
first_runs n [] p q h = h
first_runs n (r ∷ rs) p q h =
    (h.0, ap (λ t. line_gives n t p) (without_its_end r) ∙ h.1, first_runs (n + 1) rs h.0 q h.2)

pub runs_on : (n : ℕ) (xs ys : List Row) (p r q : Plan) → Runs n xs p r → Runs (n + length xs) ys r q
    → Runs n (xs ++ ys) p q
runs_on n [] ys p r q h k =
    let same : n + 0 ≡ n = omega arith in
    subst (λ (s : Plan). Runs n ys s q) (sym h) (subst (λ m. Runs m ys r q) same k)
runs_on n (x ∷ xs) ys p r q h k =
    let same : n + suc (length xs) ≡ n + 1 + length xs = omega arith in
    (h.0, h.1, runs_on (n + 1) xs ys h.0 r q h.2 (subst (λ m. Runs m ys r q) same k))

-- ---- sizes

pub text_short : (rs : List Row) → length (text_of_rows rs) ≤ 121 * length rs
text_short [] = omega arith
text_short (r ∷ rs) =
    omega (
      arith,
      text_short rs,
      r.short,
      length-append (ended r) (text_of_rows rs),
      length-append r.text (10 ∷ []),
    )

pub rows_count : (rs : List Row) → length (map ended rs) ≡ length rs
rows_count [] = refl
rows_count (r ∷ rs) = ap suc (rows_count rs)
