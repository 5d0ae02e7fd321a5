-- Octowords, pages and units said of every byte.
use Rattle.std.proofs.Common.{◌≡◌, ℕ, ◌+◌, ◌-◌, ◌/◌, ◌%◌, ◌<◌, ◌≤◌, true, false, ◌||◌, cond, eqb, List, [], ◌∷◌, get_or, All, refl, sym, ap, subst, ◌∙◌, arith}
use Rattle.std.specs.Prelude.{◌↔◌, nat_lt}
use Rattle.std.specs.List.{list_any, flat_map, count_by, range_with_len}
use Rattle.std.proofs.lemmas.Bool.{cases_Bool, cases_eq, cases_lt, or_left, or_right, or_parts, eq-eqb, ne_eqb, eqb-true, ltb-false, leb-true, le-leb}
use Rattle.std.proofs.lemmas.List.Folds.{list_any_at, Any-from_list_any}
use Rattle.std.proofs.lemmas.List.Sums.{sum_by-cons}
use Rattle.std.proofs.lemmas.List.FromFn.{length-range_with_len, get_or-range_with_len, length-map-range_with_len, get_or-map-range_with_len}
use borrow.Enum.Arm.{by_way}
use Rattle.z_regs.specs.declared.ranges.Range.{Range}
use Rattle.tx_constraint.specs.Bytes.{pieces, lies_in_one, is_own_page}
use Rattle.z_regs.specs.Rising.{IsAbove, Ascends}
use Rattle.z_regs.proofs.Rising.{any_all, ascends_all}
use Rattle.tx_constraint.specs.Octowords.{with_octowords}
use Rattle.std.specs.Cmp.{both_ways}
use Rattle.std.proofs.Common.{None, length}
use Rattle.z_instr.specs.declared.instr.Instr.{Instr}
use Rattle.tx_constraint.specs.Kept.{Kept, next_operand_breach}
use Rattle.tx_constraint.proofs.Attempts.{unbroken}

-- ---- octowords

pub members : (ranges : List Range) (x : ℕ) →
    list_any (eqb x) (with_octowords [] ranges) ≡ list_any (eqb x) (flat_map (pieces 32) ranges)
unfolding with_octowords
members ranges x = any_all (eqb x) [] (flat_map (pieces 32) ranges)

abbrev tally : ℕ → List ℕ → ℕ
tally x xs = count_by (eqb x) xs

tally_none : (x : ℕ) (xs : List ℕ) → list_any (eqb x) xs ≡ false → tally x xs ≡ 0
tally_none x [] none = refl
tally_none x (y ∷ ys) none =
    let parts = or_parts (eqb x y) (list_any (eqb x) ys) none in
    let here : cond {A = ℕ} (eqb x y) 1 0 ≡ 0 = ap (λ b. cond {A = ℕ} b 1 0) parts.0 in
    let rest : tally x ys ≡ 0 = tally_none x ys parts.1 in
    omega (arith, here, rest, sum_by-cons (λ z. cond {A = ℕ} (eqb x z) 1 0) y ys)

-- one more in front of a list
tally_front : (x y : ℕ) (ys : List ℕ) → tally x (y ∷ ys) ≡ cond {A = ℕ} (eqb x y) 1 0 + tally x ys
tally_front x y ys = omega (arith, sum_by-cons (λ z. cond {A = ℕ} (eqb x z) 1 0) y ys)

-- ---- in ascending order

pub ascends : (ranges : List Range) → Ascends (with_octowords [] ranges)
unfolding with_octowords
ascends ranges = ascends_all [] (flat_map (pieces 32) ranges) tt

-- what is not above the first is not there
not_there : (x before : ℕ) (xs : List ℕ) → Ascends xs → IsAbove before xs → x ≤ before
    → list_any (eqb x) xs ≡ false
not_there x before [] h above low = refl
not_there x before (y ∷ ys) h above low =
    ap (λ b. b || list_any (eqb x) ys) (ne_eqb x y (λ e. absurd (omega arith)))
    ∙ not_there x y ys h.1 h.0 (omega arith)

once_in : (x : ℕ) (xs : List ℕ) → Ascends xs → tally x xs ≤ 1
once_in x [] h = omega arith
once_in x (y ∷ ys) h = by_way (cases_eq x y)
    (λ same.
    let one : cond {A = ℕ} (eqb x y) 1 0 ≡ 1 = ap (λ b. cond {A = ℕ} b 1 0) (eq-eqb x y same) in
    let none : tally x ys ≡ 0 = tally_none x ys (not_there x y ys h.1 h.0 (omega arith)) in
    omega (arith, one, none, tally_front x y ys))
    (λ other.
    let none : cond {A = ℕ} (eqb x y) 1 0 ≡ 0 = ap (λ b. cond {A = ℕ} b 1 0) (ne_eqb x y other) in
    let rest = once_in x ys h.1 in
    omega (arith, none, rest, tally_front x y ys))

pub once : (ranges : List Range) (x : ℕ) → count_by (eqb x) (with_octowords [] ranges) ≤ 1
once ranges x = once_in x (with_octowords [] ranges) (ascends ranges)

-- ---- ascending lists with the same members are the same

abbrev HaveSame : List ℕ → List ℕ → Type 0
HaveSame xs ys = (x : ℕ) → list_any (eqb x) xs ≡ list_any (eqb x) ys

-- the first is no higher than that of the other
no_higher : (x y : ℕ) (xs ys : List ℕ) → Ascends (y ∷ ys) → HaveSame (x ∷ xs) (y ∷ ys) → y ≤ x
no_higher x y xs ys h same = by_way (cases_lt x y)
    (λ less.
    let there : list_any (eqb x) (y ∷ ys) ≡ true =
    sym (same x) ∙ or_left (eqb x x) (list_any (eqb x) xs) (eq-eqb x x refl) in
    let none : list_any (eqb x) (y ∷ ys) ≡ false =
    ap (λ b. b || list_any (eqb x) ys) (ne_eqb x y (λ e. absurd (omega arith)))
    ∙ not_there x y ys h.1 h.0 (omega arith) in
    absurd (let no : true ≡ false = sym there ∙ none in cc))
    (λ above. above)

-- the rest has the same members too
rest_same : (x : ℕ) (xs ys : List ℕ) → Ascends (x ∷ xs) → Ascends (x ∷ ys) → HaveSame (x ∷ xs) (x ∷ ys)
    → HaveSame xs ys
rest_same x xs ys h g same z = by_way (cases_eq z x)
    (λ here. not_there z x xs h.1 h.0 (omega arith) ∙ sym (not_there z x ys g.1 g.0 (omega arith)))
    (λ other. let no = ne_eqb z x other in
    sym (ap (λ b. b || list_any (eqb z) xs) no) ∙ same z ∙ ap (λ b. b || list_any (eqb z) ys) no)

same_list : (xs ys : List ℕ) → Ascends xs → Ascends ys → HaveSame xs ys → xs ≡ ys
same_list [] [] h g same = refl
same_list [] (y ∷ ys) h g same =
    absurd (let no : false ≡ true = same y ∙ or_left (eqb y y) (list_any (eqb y) ys) (eq-eqb y y refl) in cc)
same_list (x ∷ xs) [] h g same =
    absurd (let no : true ≡ false = sym (or_left (eqb x x) (list_any (eqb x) xs) (eq-eqb x x refl)) ∙ same x in cc)
same_list (x ∷ xs) (y ∷ ys) h g same =
    let low = no_higher x y xs ys g same in
    let high = no_higher y x ys xs h (λ z. sym (same z)) in
    let first : x ≡ y = omega arith in
    let P : ℕ → Type 0 = λ z. Ascends (z ∷ ys) in
    let Q : ℕ → Type 0 = λ z. HaveSame (x ∷ xs) (z ∷ ys) in
    let g_at : Ascends (x ∷ ys) = subst P (sym first) g in
    let same_at : HaveSame (x ∷ xs) (x ∷ ys) = subst Q (sym first) same in
    let rest = same_list xs ys h.1 g_at.1 (rest_same x xs ys h g_at same_at) in
    λ i. first i ∷ rest i

pub same_octowords : (ranges others : List Range) → ((o : ℕ) →
    list_any (eqb o) (flat_map (pieces 32) ranges) ≡ list_any (eqb o) (flat_map (pieces 32) others)) →
    with_octowords [] ranges ≡ with_octowords [] others
same_octowords ranges others same =
    same_list (with_octowords [] ranges) (with_octowords [] others) (ascends ranges) (ascends others)
    (λ o. members ranges o ∙ same o ∙ sym (members others o))

-- ---- pages

pub own_pages : (begin page : ℕ) →
    is_own_page begin page ≡ list_any (λ a. eqb page (a / 4096)) (range_with_len begin 256)
own_pages begin page = both_ways _ _
    (λ own. by_way (cases_Bool (eqb page (begin / 4096)))
    (λ first.
    let e : get_or (range_with_len begin 256) 0 0 ≡ begin = get_or-range_with_len begin 256 0 0 (omega arith)
    ∙ omega arith in
    list_any_at (λ a. eqb page (a / 4096)) (range_with_len begin 256) 0 0
    (omega (arith, length-range_with_len begin 256)) (ap (λ a. eqb page (a / 4096)) e ∙ first))
    (λ not_first.
    let last : eqb page ((begin + 255) / 4096) ≡ true =
    sym (ap (λ b. b || eqb page ((begin + 255) / 4096)) not_first) ∙ own in
    let e : get_or (range_with_len begin 256) 255 0 ≡ begin + 255 =
    get_or-range_with_len begin 256 255 0 (omega arith) in
    list_any_at (λ a. eqb page (a / 4096)) (range_with_len begin 256) 255 0
    (omega (arith, length-range_with_len begin 256)) (ap (λ a. eqb page (a / 4096)) e ∙ last)))
    (λ some.
    let found = Any-from_list_any (λ a. eqb page (a / 4096)) (range_with_len begin 256) some in
    let within : found.0 < 256 = omega (arith, found.2, length-range_with_len begin 256) in
    let here : found.1 ≡ begin + found.0 = sym found.3
    ∙ get_or-range_with_len begin 256 found.0 found.1 within in
    let there : page ≡ found.1 / 4096 = eqb-true page (found.1 / 4096) found.4 in
    by_way (cases_eq page (begin / 4096))
    (λ first. or_left (eqb page (begin / 4096)) (eqb page ((begin + 255) / 4096)) (eq-eqb _ _ first))
    (λ other. or_right (eqb page (begin / 4096)) (eqb page ((begin + 255) / 4096))
    (eq-eqb _ _ (omega (arith, here, there)))))

-- ---- units

pub in_doubleword : (r : Range) → 0 < r.length → (lies_in_one 8 r ≡ true) ↔
    All (λ piece. piece ≡ r.first / 8) (pieces 8 r)
in_doubleword r some = (
  λ one k d h.
      let fits : r.first % 8 + r.length ≤ 8 = leb-true _ _ one in
      let within : k < r.length = omega (arith, h, length-map-range_with_len (λ a. a / 8) r.first r.length) in
      get_or-map-range_with_len (λ a. a / 8) r.first r.length k (r.first + k) d within refl ∙ omega arith,
  λ all.
      let size = length-map-range_with_len (λ a. a / 8) r.first r.length in
      let last = all (r.length - 1) 0 (omega (arith, size)) in
      let at_last =
      get_or-map-range_with_len (λ a. a / 8) r.first r.length (r.length - 1) (r.first + (r.length - 1)) 0
      (omega arith) refl in
      let same : (r.first + (r.length - 1)) / 8 ≡ r.first / 8 = sym at_last ∙ last in
      le-leb _ _ (omega arith),
)

pub in_octoword : (r : Range) → 0 < r.length → (lies_in_one 32 r ≡ true) ↔
    All (λ piece. piece ≡ r.first / 32) (pieces 32 r)
in_octoword r some = (
  λ one k d h.
      let fits : r.first % 32 + r.length ≤ 32 = leb-true _ _ one in
      let within : k < r.length =
      omega (arith, h, length-map-range_with_len (λ a. a / 32) r.first r.length) in
      get_or-map-range_with_len (λ a. a / 32) r.first r.length k (r.first + k) d within refl ∙ omega arith,
  λ all.
      let size = length-map-range_with_len (λ a. a / 32) r.first r.length in
      let last = all (r.length - 1) 0 (omega (arith, size)) in
      let at_last =
      get_or-map-range_with_len (λ a. a / 32) r.first r.length (r.length - 1)
      (r.first + (r.length - 1)) 0 (omega arith) refl in
      let same : (r.first + (r.length - 1)) / 32 ≡ r.first / 32 = sym at_last ∙ last in
      le-leb _ _ (omega arith),
)

pub few_words : (k : Kept) (i : Instr) (ranges : List Range) → next_operand_breach k i ranges ≡ None
    → length (with_octowords k.octowords ranges) ≤ 4
unfolding next_operand_breach
few_words k i ranges h =
    ltb-false 4 (length (with_octowords k.octowords ranges))
    (unbroken (nat_lt 4 (length (with_octowords k.octowords ranges))) 4 _ h).0
