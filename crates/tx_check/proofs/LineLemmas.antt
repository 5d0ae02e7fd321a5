-- Lines of a text, the first one and the others.
use Rattle.std.proofs.Common.{◌≡◌, ◌≢◌, ◌∙◌, ap, ap₂, sym, refl, ℕ, ◌+◌, ◌-◌, ◌<◌, ◌≤◌, arith}
use Rattle.std.proofs.Common.{List, [], ◌∷◌, ◌++◌, length, take, drop, Bool, true, false, get_or, Some, None}
use Rattle.std.specs.Prelude.{◌==◌, if◌then◌else◌}
use Rattle.std.proofs.lemmas.List.{take_all, take_more, length-drop, take-append-drop}
use Rattle.std.proofs.lemmas.Option.{slice_get-get_or, slice_get_past, same_Some}
use Rattle.report_form.specs.declared.places.Place.{Place}
use Rattle.report_form.specs.Text.{lines_of, in_front, IsPlace}
use Rattle.tx_check.specs.Lines.{FirstDifference}
use Rattle.tx_check.specs.Sound.{joined}

front_joined : (byte : ℕ) (ls : List (List ℕ)) → joined (in_front byte ls) ≡ byte ∷ joined ls
front_joined byte [] = refl
front_joined byte (l ∷ ls) = refl

more_joined : (byte : ℕ) (ls : List (List ℕ)) (rest : List ℕ) → joined ls ≡ rest → (b : Bool)
    → joined (if b then (byte ∷ []) ∷ ls else in_front byte ls) ≡ byte ∷ rest
more_joined byte ls rest is true = ap (λ t. byte ∷ t) is
more_joined byte ls rest is false = front_joined byte ls ∙ ap (λ t. byte ∷ t) is

-- the lines, joined, are the text
pub joined_lines : (text : List ℕ) → joined (lines_of text) ≡ text
unfolding lines_of
joined_lines [] = refl
joined_lines (byte ∷ rest) = more_joined byte (lines_of rest) rest (joined_lines rest) (byte == 10)

-- texts with the same lines are the same
pub same_lines : (some others : List ℕ) → lines_of some ≡ lines_of others → some ≡ others
same_lines some others is = sym (joined_lines some) ∙ ap joined is ∙ joined_lines others

-- ---- where texts differ

some_none : (x : List ℕ) → Some x ≡ None → ⊥
some_none x is = cc

pub differ_here : (xs ys : List (List ℕ)) (k : ℕ) → k < length xs → k < length ys → take k xs ≡ take k ys
    → get_or xs k [] ≢ get_or ys k [] → FirstDifference xs ys (k + 1)
differ_here xs ys k here there same other = record {
  before = k;
  counted = refl;
  same = same;
  differs = λ is. other (same_Some _ _ (sym (slice_get-get_or xs k [] here) ∙ is ∙ slice_get-get_or ys k [] there));
}

pub first_longer : (xs ys : List (List ℕ)) (k : ℕ) → k < length xs → length ys ≤ k → take k xs ≡ take k ys
    → FirstDifference xs ys (k + 1)
first_longer xs ys k here past same = record {
  before = k;
  counted = refl;
  same = same;
  differs = λ is. some_none _ (sym (slice_get-get_or xs k [] here) ∙ is ∙ slice_get_past ys k past);
}

pub first_shorter : (xs ys : List (List ℕ)) (k : ℕ) → length xs ≤ k → k < length ys → take k xs ≡ take k ys
    → FirstDifference xs ys (k + 1)
first_shorter xs ys k past there same = record {
  before = k;
  counted = refl;
  same = same;
  differs = λ is. some_none _ (sym (slice_get-get_or ys k [] there) ∙ sym is ∙ slice_get_past xs k past);
}

pub same_more : (xs ys : List (List ℕ)) (k : ℕ) → k < length xs → k < length ys → take k xs ≡ take k ys
    → get_or xs k [] ≡ get_or ys k [] → take (k + 1) xs ≡ take (k + 1) ys
same_more xs ys k here there same is =
    take_more xs k [] here ∙ ap₂ (λ a b. a ++ b ∷ []) same is ∙ sym (take_more ys k [] there)

-- lines of which none is left
pub all_same : (xs ys : List (List ℕ)) (k : ℕ) → length xs ≤ k → length ys ≤ k → take k xs ≡ take k ys → xs ≡ ys
all_same xs ys k past behind same = sym (take_all k xs past) ∙ same ∙ take_all k ys behind

-- ---- from a place on

-- the lines of what stands behind a place
pub rest_lines : (text : List ℕ) (p : Place) → IsPlace text p
    → lines_of (take (length text - p.byte) (drop p.byte text)) ≡ drop p.line (lines_of text)
rest_lines text p place =
    let bytes = length-drop p.byte text in
    ap lines_of (take_all (length text - p.byte) (drop p.byte text) (omega (arith, bytes))) ∙ place.behind

pub rest_joined : (text : List ℕ) (p : Place) → IsPlace text p
    → take (length text - p.byte) (drop p.byte text) ≡ joined (drop p.line (lines_of text))
rest_joined text p place =
    sym (joined_lines (take (length text - p.byte) (drop p.byte text))) ∙ ap joined (rest_lines text p place)

-- a text that begins as another does up to a place, and has its lines from there on, is the other
pub state_whole : (report state : List ℕ) (p : Place) → IsPlace report p → take p.byte report ≡ state
    → lines_of report ≡ lines_of (state ++ joined (drop p.line (lines_of report)))
state_whole report state p place is =
    let rest : drop p.byte report ≡ joined (drop p.line (lines_of report)) =
    sym (joined_lines (drop p.byte report)) ∙ ap joined place.behind in
    ap lines_of (sym (take-append-drop p.byte report) ∙ ap₂ (λ (a b : List ℕ). a ++ b) is rest)
