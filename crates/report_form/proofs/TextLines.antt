-- The lines of a text, the first one and the others, and those from a place on.
use Rattle.std.proofs.Common.{◌≡◌, ◌≢◌, ◌∙◌, ap, ap₂, sym, refl, subst, ℕ, suc, ◌+◌, ◌-◌, ◌<◌, ◌≤◌, arith}
use Rattle.std.proofs.Common.{List, [], ◌∷◌, ◌++◌, length, take, drop, append_assoc, Bool, true, false}
use Rattle.std.proofs.Common.{get_or, length-append}
use Rattle.std.specs.Prelude.{◌==◌, if◌then◌else◌}
use Rattle.std.proofs.lemmas.List.{take_all, drop_all, length-drop, drop-drop}
use Rattle.std.proofs.Math.Seq.{drop-append_seam, take-append_seam, drop-length, drop-cons}
use Rattle.tx_journal.specs.Numbers.{Lacks}
use Rattle.tx_journal.proofs.Decimals.{lacks_rest}
use Rattle.report_form.specs.declared.places.Place.{Place}
use Rattle.report_form.specs.Text.{lines_of, in_front, IsPlace, IsLineAt, IsNext}

pub other_byte : (b : ℕ) → b ≢ 10 → (b == 10) ≡ false
other_byte b other = grind (arith, other)

-- a line with its line feed, and what stands behind it
pub ended_front : (front rest : List ℕ) → Lacks 10 front
    → lines_of (front ++ 10 ∷ rest) ≡ (front ++ 10 ∷ []) ∷ lines_of rest
unfolding lines_of
ended_front [] rest lacks = refl
ended_front (b ∷ bs) rest lacks =
    ap (λ (t : Bool). if t then (b ∷ []) ∷ lines_of (bs ++ 10 ∷ rest) else in_front b (lines_of (bs ++ 10 ∷ rest)))
    (other_byte b (lacks 0 (omega arith)))
    ∙ ap (in_front b) (ended_front bs rest (lacks_rest 10 b bs lacks))

pub ended_first : (text front rest : List ℕ) (size : ℕ) → text ≡ front ++ 10 ∷ rest → Lacks 10 front
    → size ≡ length front + 1 → lines_of text ≡ take size text ∷ lines_of (drop size text)
ended_first text front rest size cut lacks is =
    let whole : text ≡ (front ++ 10 ∷ []) ++ rest = cut ∙ sym (append_assoc front (10 ∷ []) rest) in
    let many : size ≡ length (front ++ 10 ∷ []) = let l = length-append front (10 ∷ []) in omega (arith, is, l) in
    let first : take size text ≡ front ++ 10 ∷ [] =
    ap (take size) whole ∙ ap (λ n. take n ((front ++ 10 ∷ []) ++ rest)) many
    ∙ take-append_seam (front ++ 10 ∷ []) rest in
    let behind : drop size text ≡ rest =
    ap (drop size) whole ∙ ap (λ n. drop n ((front ++ 10 ∷ []) ++ rest)) many
    ∙ drop-append_seam (front ++ 10 ∷ []) rest in
    ap lines_of cut ∙ ended_front front rest lacks
    ∙ sym (ap₂ (λ l r. l ∷ lines_of r) first behind)

-- a text without a line feed is one line
unended_line : (b : ℕ) (bs : List ℕ) → Lacks 10 (b ∷ bs) → lines_of (b ∷ bs) ≡ (b ∷ bs) ∷ []
unfolding lines_of
unended_line b [] lacks =
    ap (λ (t : Bool). if t then (b ∷ []) ∷ lines_of [] else in_front b (lines_of []))
    (other_byte b (lacks 0 (omega arith)))
unended_line b (n ∷ bs) lacks =
    ap (λ (t : Bool). if t then (b ∷ []) ∷ lines_of (n ∷ bs) else in_front b (lines_of (n ∷ bs)))
    (other_byte b (lacks 0 (omega arith)))
    ∙ ap (in_front b) (unended_line n bs (lacks_rest 10 b (n ∷ bs) lacks))

no_lines : lines_of [] ≡ []
unfolding lines_of
no_lines = refl

pub unended_first : (text : List ℕ) → 0 < length text → Lacks 10 text
    → lines_of text ≡ take (length text) text ∷ lines_of (drop (length text) text)
unended_first [] some lacks = absurd (omega arith)
unended_first (b ∷ bs) some lacks =
    unended_line b bs lacks
    ∙ sym (ap₂ (λ l r. l ∷ r) (take_all (length (b ∷ bs)) (b ∷ bs) (omega arith))
    (ap lines_of (drop-length (b ∷ bs)) ∙ no_lines))

some_first : (b : ℕ) (ls : List (List ℕ)) (t : Bool) → 0 < length (if t then (b ∷ []) ∷ ls else in_front b ls)
some_first b ls true = omega arith
some_first b [] false = omega arith
some_first b (l ∷ ls) false = omega arith

-- a text with bytes has a line
some_lines : (text : List ℕ) → 0 < length text → 0 < length (lines_of text)
unfolding lines_of
some_lines [] some = absurd (omega arith)
some_lines (b ∷ rest) some = some_first b (lines_of rest) (b == 10)

-- ---- from a place on

pub first_place : (text : List ℕ) → IsPlace text (record { line = 0; byte = 0 })
first_place text = record { within = omega arith; few = omega arith; known = omega arith; behind = refl }

-- no line is left at the end of the text
pub none_left : (text : List ℕ) (p : Place) → IsPlace text p → length text ≤ p.byte
    → length (lines_of text) ≤ p.line
none_left text p place past =
    let none : drop p.line (lines_of text) ≡ [] =
    sym place.behind ∙ ap lines_of (drop_all p.byte text past) ∙ no_lines in
    let many = ap (λ (ls : List (List ℕ)). length ls) none in
    let size = length-drop p.line (lines_of text) in
    omega (arith, many, size)

-- one is left where bytes are
pub some_left : (text : List ℕ) (p : Place) → IsPlace text p → p.byte < length text
    → p.line < length (lines_of text)
some_left text p place more =
    let bytes = length-drop p.byte text in
    let some = some_lines (drop p.byte text) (omega (arith, bytes, more)) in
    let same : length (lines_of (drop p.byte text)) ≡ length (drop p.line (lines_of text)) =
    ap (λ (ls : List (List ℕ)). length ls) place.behind in
    let size = length-drop p.line (lines_of text) in
    omega (arith, some, same, size)

-- the line at a place, and the place behind it
pub line_here : (text : List ℕ) (p : Place) (size : ℕ) → IsPlace text p → p.byte < length text → 0 < size
    → size ≤ length (take (length text - p.byte) (drop p.byte text))
    → lines_of (take (length text - p.byte) (drop p.byte text))
    ≡ take size (take (length text - p.byte) (drop p.byte text))
    ∷ lines_of (drop size (take (length text - p.byte) (drop p.byte text)))
    → IsLineAt text p.line (take ((p.byte + size) - p.byte) (drop p.byte text))
    × IsNext text p (record { line = p.line + 1; byte = p.byte + size })
line_here text p size place more some within cut =
    let lines = lines_of text in
    let rest = drop p.byte text in
    let bytes = length-drop p.byte text in
    let whole : take (length text - p.byte) rest ≡ rest = take_all (length text - p.byte) rest (omega (arith, bytes)) in
    let fits : size ≤ length rest = subst (λ t. size ≤ length t) whole within in
    let first : lines_of rest ≡ take size rest ∷ lines_of (drop size rest) =
    subst (λ t. lines_of t ≡ take size t ∷ lines_of (drop size t)) whole cut in
    let there = some_left text p place more in
    let here : get_or lines p.line [] ∷ drop (suc p.line) lines ≡ take size rest ∷ lines_of (drop size rest) =
    sym (drop-cons lines p.line [] there) ∙ sym place.behind ∙ first in
    let many : size ≡ (p.byte + size) - p.byte = omega arith in
    let next : suc p.line ≡ p.line + 1 = omega arith in (
      record {
        there = there;
        is = ap (λ (ls : List (List ℕ)). get_or ls 0 []) here ∙ ap (λ n. take n rest) many;
      },
      record {
        line = refl;
        place = record {
          within = omega (arith, fits, bytes, more);
          few = let few = place.few in omega (arith, few, some);
          known = omega (arith, there);
          behind =
              ap lines_of (sym (drop-drop size p.byte text))
              ∙ sym (ap (λ (ls : List (List ℕ)). drop 1 ls) here)
              ∙ ap (λ n. drop n lines) next;
        };
      },
    )
