-- What is kept beside the stop queue stays true as CPUs join, leave and go to the tail.
use Rattle.std.proofs.Common.{◌≡◌, ◌≢◌, ℕ, zero, suc, ◌+◌, ◌<◌, Bool, true, false, cond, eqb, List, [], ◌∷◌}
use Rattle.std.proofs.Common.{◌++◌, length, get_or, set, take, drop, refl, sym, ap, ◌∙◌, arith}
use Rattle.std.specs.Prelude.{◌||◌, All, AllPairs, count_by}
use Rattle.std.proofs.lemmas.Bool.{cases_eq, cases_lt, eqb-false, ne_eqb, eq-eqb, or_parts, or_from, or_left}
use Rattle.std.proofs.lemmas.Bool.{or_right}
use Rattle.std.proofs.lemmas.List.{get_or-set_same, get_or-set_other, get_or_past, length-set, length_push}
use Rattle.std.proofs.lemmas.List.Folds.{list_any-append, list_any_at}
use Rattle.std.proofs.lemmas.List.Quantifiers.{all_pairs_push}
use Rattle.std.proofs.lemmas.List.Sums.{sum_by-set, count_by-le-length}
use borrow.Enum.Arm.{by_way}
use Rattle.tx_ladder.specs.Waiting.{waits_in, IsKept}

abbrev mark_count : List Bool → ℕ
mark_count marks = count_by (λ mark. mark) marks

-- what `or` makes of a side that is false, and of its sides in the other order
pub drop_false : (a b : Bool) → b ≡ false → (a || (b || false)) ≡ a
drop_false a true e = let n : true ≡ false = e in cc
drop_false true false e = refl
drop_false false false e = refl

false_or : (a b : Bool) → a ≡ false → (a || b) ≡ b
false_or true b e = let n : true ≡ false = e in cc
false_or false b e = refl

or_swap : (a b : Bool) → (a || b) ≡ (b || (a || false))
or_swap true true = refl
or_swap true false = refl
or_swap false true = refl
or_swap false false = refl

-- who is not in the list is at none of its places
absent : (xs : List ℕ) (c k d : ℕ) → waits_in xs c ≡ false → k < length xs → get_or xs k d ≢ c
absent [] c k d h l = absurd (omega arith)
absent (x ∷ xs) c zero d h l = eqb-false x c (or_parts (eqb x c) (waits_in xs c) h).0
absent (x ∷ xs) c (suc k) d h l = absent xs c k d (or_parts (eqb x c) (waits_in xs c) h).1 (omega arith)

away : (xs : List ℕ) (c : ℕ) → ((k : ℕ) → k < length xs → get_or xs k 0 ≢ c) → waits_in xs c ≡ false
away [] c h = refl
away (x ∷ xs) c h =
    let first : 0 < length (x ∷ xs) = omega arith in
    or_from (eqb x c) (waits_in xs c) (ne_eqb x c (h 0 first)) (away xs c (λ k l. h (suc k) (omega arith)))

-- a CPU with a mark is below their number
pub marked_below : (marks : List Bool) (c : ℕ) → get_or marks c false ≡ true → c < length marks
marked_below marks c e =
    by_way (cases_lt c (length marks))
    (λ lt. lt)
    (λ ge. let n : false ≡ true = sym (get_or_past marks c false ge) ∙ e in cc)

abbrev bit : Bool → ℕ
bit mark = cond mark 1 0

set_counts : (marks : List Bool) (c : ℕ) (mark : Bool) → c < length marks
    → mark_count (set marks c mark) + bit (get_or marks c false) ≡ mark_count marks + bit mark
set_counts marks c mark lt = sum_by-set bit marks c mark false lt

-- there is room for a CPU that does not wait
pub room_left : (marks : List Bool) (order : List ℕ) (room c : ℕ) → IsKept marks order room → c < length marks
    → waits_in order c ≡ false → length order < room
room_left marks order room c kept lt off =
    let e : bit (get_or marks c false) ≡ 0 = ap bit (kept.marked c ∙ off) in
    omega (
      arith,
      set_counts marks c true lt,
      count_by-le-length (λ mark. mark) (set marks c true),
      length-set
          marks c true,
      kept.counted,
      kept.room_for_all,
    )

pub joined : (marks : List Bool) (order : List ℕ) (room c : ℕ) → IsKept marks order room → c < length marks
    → waits_in order c ≡ false → IsKept (set marks c true) (order ++ c ∷ []) room
joined marks order room c kept lt off =
    let last : (y : ℕ) → waits_in (order ++ c ∷ []) y ≡ (waits_in order y || (eqb c y || false)) =
    λ y. list_any-append (λ x. eqb x y) order (c ∷ []) in
    let none : bit (get_or marks c false) ≡ 0 = ap bit (kept.marked c ∙ off) in
    record {
      marked = λ y. by_way (cases_eq y c)
          (λ e. ap (λ z. get_or (set marks c true) z false) e ∙ get_or-set_same marks c true false lt
          ∙ sym (last y
          ∙ or_right (waits_in order y) (eqb c y || false)
          (or_left (eqb c y) false (eq-eqb c y (sym e)))))
          (λ ne. get_or-set_other marks c y true false ne ∙ kept.marked y
          ∙ sym (last y ∙ drop_false (waits_in order y) (eqb c y) (ne_eqb c y (λ e. ne (sym e)))));
      once = all_pairs_push ◌≢◌ order c kept.once (λ k d l. absent order c k d off l);
      counted = omega (arith, set_counts marks c true lt, kept.counted, length_push order c);
      room_for_all = omega (arith, length-set marks c true, kept.room_for_all);
    }

later : (x : ℕ) (xs : List ℕ) → AllPairs ◌≢◌ (x ∷ xs) → AllPairs ◌≢◌ xs
later x xs once = λ i j d lt within. once (suc i) (suc j) d (omega arith) (omega arith)

first_apart : (x : ℕ) (xs : List ℕ) → AllPairs ◌≢◌ (x ∷ xs) → waits_in xs x ≡ false
first_apart x xs once = away xs x (λ k l e. once 0 (suc k) 0 (omega arith) (omega arith) (sym e))

pub head_marked : (marks : List Bool) (c : ℕ) (rest : List ℕ) (room : ℕ) → IsKept marks (c ∷ rest) room
    → c < length marks
head_marked marks c rest room kept =
    marked_below marks c (kept.marked c ∙ or_left (eqb c c) (waits_in rest c) (eq-eqb c c refl))

pub left : (marks : List Bool) (c : ℕ) (rest : List ℕ) (room : ℕ) → IsKept marks (c ∷ rest) room
    → IsKept (set marks c false) rest room
left marks c rest room kept =
    let lt : c < length marks = head_marked marks c rest room kept in
    let one : bit (get_or marks c false) ≡ 1 =
    ap bit (kept.marked c ∙ or_left (eqb c c) (waits_in rest c) (eq-eqb c c refl)) in
    record {
      marked = λ y. by_way (cases_eq y c)
          (λ e. ap (λ z. get_or (set marks c false) z false) e ∙ get_or-set_same marks c false false lt
          ∙ sym (ap (waits_in rest) e ∙ first_apart c rest kept.once))
          (λ ne. get_or-set_other marks c y false false ne ∙ kept.marked y
          ∙ false_or (eqb c y) (waits_in rest y) (ne_eqb c y (λ e. ne (sym e))));
      once = later c rest kept.once;
      counted = omega (arith, set_counts marks c false lt, kept.counted);
      room_for_all = omega (arith, length-set marks c false, kept.room_for_all);
    }

turned_pairs : (x : ℕ) (xs : List ℕ) → AllPairs ◌≢◌ (x ∷ xs) → AllPairs ◌≢◌ (xs ++ x ∷ [])
turned_pairs x xs once =
    all_pairs_push ◌≢◌ xs x (later x xs once)
    (λ k d l e. once 0 (suc k) d (omega arith) (omega arith) (sym e))

pub turned : (marks : List Bool) (order : List ℕ) (room : ℕ) → IsKept marks order room
    → IsKept marks (drop 1 order ++ take 1 order) room
turned marks [] room kept = kept
turned marks (x ∷ xs) room kept =
    record {
      marked = λ y. kept.marked y ∙ or_swap (eqb x y) (waits_in xs y)
          ∙ sym (list_any-append (λ z. eqb z y) xs (x ∷ []));
      once = turned_pairs x xs kept.once;
      counted = omega (arith, kept.counted, length_push xs x);
      room_for_all = kept.room_for_all;
    }

at_place : (xs : List ℕ) (k d : ℕ) → k < length xs → waits_in xs (get_or xs k d) ≡ true
at_place xs k d lt =
    list_any_at (λ x. eqb x (get_or xs k d)) xs k d lt (eq-eqb (get_or xs k d) (get_or xs k d) refl)

pub in_range : (marks : List Bool) (order : List ℕ) (room : ℕ) → IsKept marks order room
    → All (λ c. c < length marks) order
in_range marks order room kept =
    λ k d lt. marked_below marks (get_or order k d) (kept.marked (get_or order k d) ∙ at_place order k d lt)
