-- Places of names that are expected.
use Rattle.std.proofs.Common.{◌≡◌, ℕ, ◌<◌, ◌≤◌, ◌&&◌, Bool, true, false, List, Option, Some, None, length}
use Rattle.std.proofs.Common.{get_or, refl, sym, ap, ◌∙◌, arith, nat_lt}
use Rattle.std.specs.Prelude.{◌==◌, if◌then◌else◌}
use Rattle.std.specs.Str.{bytes_eq}
use borrow.Author.Tests.{eqb-true, eqb-false}
use Rattle.std.proofs.lemmas.List.Sums.{prefix_len_is}
use Rattle.std.proofs.Common.{zero, suc, set, replicate, [], ◌∷◌}
use Rattle.std.proofs.lemmas.List.{get_or-set_same, get_or-set_other}
use Rattle.std.specs.List.{prefix_len, slice_get}
use Rattle.z_regs.proofs.Elements.{put_is_there}
use Rattle.z_text.specs.declared.value.LabelValue.{LabelValue}
use Rattle.z_text.specs.Expected.{place_in as first_place, place_for, place_of, value_at}
use Rattle.z_text.specs.Labels.{key_of, place_in}
use Rattle.z_text.specs.Line.{is_name}
use Rattle.z_text.specs.declared.expected.Expected.{Expected}
use Rattle.z_text.specs.declared.labels.Labels.{Labels}
use Rattle.z_text.proofs.Keys.{same_name, bytes_same, bytes_of_itself, bytes_differ}
use Rattle.std.proofs.lemmas.Bool.{and_parts}

-- A partition point is the length of the prefix that passes.
pub prefix_from_point : {X : Type 0} (p : X → Bool) (xs : List X) (r : ℕ) (d : X) → r ≤ length xs →
    ((k : ℕ) (e : X) → 0 ≤ k → k < r → p (get_or xs k e) ≡ true)
    × ((k : ℕ) (e : X) → r ≤ k → k < length xs → p (get_or xs k e) ≡ false) → prefix_len p xs ≡ r
prefix_from_point p xs r d bound point =
    prefix_len_is p xs r d bound (λ k l. point.0 k d (omega arith) l) (λ l. point.1 r d (omega arith) l)

same_number : (a b : ℕ) → (a == b) ≡ true → a ≡ b
same_number a b h = eqb-true a b h

get_set_other : {X : Type 0} (xs : List X) (i j : ℕ) (y : X) → (j ≡ i → ⊥) →
    slice_get (set xs i y) j ≡ slice_get xs j
get_set_other [] i j y differ = refl
get_set_other (x ∷ xs) zero zero y differ = absurd (differ refl)
get_set_other (x ∷ xs) zero (suc j) y differ = refl
get_set_other (x ∷ xs) (suc i) zero y differ = refl
get_set_other (x ∷ xs) (suc i) (suc j) y differ = get_set_other xs i j y (λ e. differ (ap suc e))

-- A place that is given a value has it, and the others stay.
pub put_values : (e n : Expected) (place : ℕ) (v : LabelValue) → place < length e.values.items →
    length e.given.items ≡ length e.values.items → n.given.items ≡ set e.given.items place true →
    n.values.items ≡ set e.values.items place v →
    (q : ℕ) → value_at n q ≡ (if q == place then Some v else value_at e q)
unfolding value_at
put_values e n place v h size given values q = by_place (q == place) refl
  where
    by_place : (b : Bool) → (q == place) ≡ b → (if get_or n.given.items q false then slice_get n.values.items q else None)
        ≡ (if q == place then Some v else (if get_or e.given.items q false then slice_get e.values.items q else None))
    by_place true t =
        let same : q ≡ place = same_number q place t in
        let inside : place < length e.given.items = omega arith in
        let marked : get_or n.given.items q false ≡ true =
        ap (λ l. get_or l q false) given ∙ (ap (λ k. get_or (set e.given.items place true) k false) same
        ∙ get_or-set_same e.given.items place true false inside) in
        let there : slice_get n.values.items q ≡ Some v =
        ap (λ l. slice_get l q) values ∙ (ap (slice_get (set e.values.items place v)) same
        ∙ put_is_there e.values.items place v h) in rw (marked, there, t) refl
    by_place false t =
        let differ : q ≡ place → ⊥ = eqb-false q place t in
        let marks : get_or n.given.items q false ≡ get_or e.given.items q false =
        ap (λ l. get_or l q false) given ∙ get_or-set_other e.given.items place q true false differ in
        let there : slice_get n.values.items q ≡ slice_get e.values.items q =
        ap (λ l. slice_get l q) values ∙ get_set_other e.values.items place q v differ in
        rw (marks, there, t) refl

-- Where nothing is given, there are no values.
pub none_given : (e : Expected) (n : ℕ) → e.given.items ≡ replicate n false → (q : ℕ) → value_at e q ≡ None
unfolding value_at
none_given e n h q =
    let free : get_or e.given.items q false ≡ false = ap (λ l. get_or l q false) h ∙ unmarked n q in
    rw free refl
  where
    unmarked : (n q : ℕ) → get_or (replicate n false) q false ≡ false
    unmarked zero q = refl
    unmarked (suc n) zero = refl
    unmarked (suc n) (suc q) = unmarked n q

-- At the place of a number stands the number.
number_there : (keys : List ℕ) (key place i : ℕ) → place_for keys key place ≡ Some i → get_or keys i 0 ≡ key
number_there keys key place i e = by_test (nat_lt place (length keys) && (get_or keys place 0 == key)) refl
  where
    by_test : (b : Bool) → (nat_lt place (length keys) && (get_or keys place 0 == key)) ≡ b →
        get_or keys i 0 ≡ key
    by_test true t =
        let found : Some place ≡ Some i = ap (λ b. if b then Some place else None) (sym t) ∙ e in
        let same : place ≡ i = cc in
        ap (λ k. get_or keys k 0) (sym same) ∙ same_number _ _ (and_parts _ _ t).1
    by_test false t =
        let none : None ≡ Some i = ap (λ b. if b then Some place else None) (sym t) ∙ e in absurd cc

-- What is expected is a name, and its number stands at its place.
pub expected_is : (l : Labels) (q : List ℕ) (i : ℕ) → place_in l q ≡ Some i →
    (is_name q ≡ true) × (get_or l.expected.keys.items i 0 ≡ key_of q)
unfolding place_in place_of
expected_is l q i e = by_name (is_name q) refl
  where
    by_name : (b : Bool) → is_name q ≡ b →
        (is_name q ≡ true) × (get_or l.expected.keys.items i 0 ≡ key_of q)
    by_name true n =
        let there : place_of l.expected (key_of q) ≡ Some i =
        ap (λ b. if b then place_of l.expected (key_of q) else None) (sym n) ∙ e in (
          n,
          number_there l.expected.keys.items (key_of q)
              (first_place l.expected.keys.items (key_of q)) i there,
        )
    by_name false n =
        let none : None ≡ Some i = ap (λ b. if b then place_of l.expected (key_of q) else None) (sym n) ∙ e in
        absurd cc

-- Two texts are the same only where their places are.
pub apart : (l : Labels) (a b : List ℕ) → (place_in l a ≡ place_in l b → ⊥) → bytes_eq a b ≡ false
apart l a b differ = bytes_differ a b (λ same. differ (ap (place_in l) same))

-- Two names that are expected have one place exactly where they are the same.
pub places_decide : (l : Labels) (a b : List ℕ) (i j : ℕ) → place_in l a ≡ Some i → place_in l b ≡ Some j →
    (i == j) ≡ bytes_eq a b
places_decide l a b i j p q = by_place (i == j) refl (bytes_eq a b) refl
  where
    by_place : (c : Bool) → (i == j) ≡ c → (d : Bool) → bytes_eq a b ≡ d → (i == j) ≡ bytes_eq a b
    by_place true e d f =
        let same : i ≡ j = same_number i j e in
        let at_a = expected_is l a i p in
        let at_b = expected_is l b j q in
        let keys : key_of a ≡ key_of b =
        sym at_a.1 ∙ (ap (λ k. get_or l.expected.keys.items k 0) same ∙ at_b.1) in
        let is : a ≡ b = same_name a b at_a.0 at_b.0 keys in
        e ∙ sym (ap (λ x. bytes_eq x b) is ∙ bytes_of_itself b)
    by_place false e true f =
        let found : Some i ≡ Some j = sym p ∙ (ap (place_in l) (bytes_same a b f) ∙ q) in
        let same : i ≡ j = cc in absurd (eqb-false i j e same)
    by_place false e false f = e ∙ sym f
