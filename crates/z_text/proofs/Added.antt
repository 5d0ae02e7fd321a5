-- What labels say after one was given its value.
use Rattle.std.proofs.Common.{◌≡◌, ℕ, Bool, true, false, cond, List, Option, Some, None, refl, sym, ap, ◌∙◌}
use Rattle.std.specs.Prelude.{option_map, if◌then◌else◌, Result, Ok, Err, OnErr, ◌==◌}
use Rattle.std.specs.Str.{bytes_eq}
use Rattle.std.specs.BTreeMap.{BTreeMap, get_by, insert_entry, is_at}
use Rattle.std.specs.Map.{lookup}
use Rattle.std.specs.Ordering.{nat_cmp, is_eq}
use Rattle.std.specs.Cmp.Lexicographic.{slice_cmp}
use Rattle.std.specs.declared.alloc.Global.{Global}
use Rattle.std.specs.declared.vec.Vec.{Vec}
use Rattle.std.proofs.lemmas.Map.Text.{is_eq-slice_cmp}
use Rattle.z_text.specs.Expected.{place_in as first_place, place_for, place_of, value_at}
use Rattle.z_text.specs.Labels.{key_of, place_in, found_at, value_in, value_of}
use Rattle.z_text.specs.Line.{is_name}
use Rattle.z_text.proofs.Places.{apart, places_decide}
use Rattle.z_text.proofs.Table.{lookup_inserted, mapped_choice}
use Rattle.z_text.specs.declared.expected.Expected.{Expected}
use Rattle.z_text.specs.declared.labels.Labels.{Labels}
use Rattle.z_text.specs.declared.value.LabelValue.{LabelValue}

abbrev Others : Type 0
Others = BTreeMap (Vec ℕ Global) LabelValue

abbrev with_expected : Labels → Expected → Labels
with_expected l e = record { alloc = l.alloc; expected = e; others = l.others }

abbrev with_others : Labels → Others → Labels
with_others l m = record { alloc = l.alloc; expected = l.expected; others = m }

-- What holds in any case holds on an error.
pub on_error : {X E : Type 0} (r : Result X E) (P : Type 0) → P → OnErr r P
on_error (Ok x) P p = tt
on_error (Err e) P p = p

-- The place of a name is that among the numbers.
places_kept : (l : Labels) (e : Expected) (q : List ℕ) → e.keys ≡ l.expected.keys →
    place_in (with_expected l e) q ≡ place_in l q
unfolding place_in place_of
places_kept l e q same =
    ap (λ ks. if is_name q then place_for ks.items (key_of q) (first_place ks.items (key_of q)) else None) same

same_places : (l : Labels) (m : Others) (q : List ℕ) → place_in (with_others l m) q ≡ place_in l q
unfolding place_in
same_places l m q = refl

-- the value of a name that is expected, and of another
at_place : (l : Labels) (q : List ℕ) (o : Option ℕ) → place_in l q ≡ o →
    value_in l q ≡ option_map value_of (found_at o l q)
unfolding value_in
at_place l q o h = ap (λ p. option_map value_of (found_at p l q)) h

-- Other names that stay leave the values as they are.
pub other_kept : (l : Labels) (m : Others) (q : List ℕ) → m.entries ≡ l.others.entries →
    value_in (with_others l m) q ≡ value_in l q
other_kept l m q e = by_place (place_in l q) refl
  where
    by_place : (o : Option ℕ) → place_in l q ≡ o → value_in (with_others l m) q ≡ value_in l q
    by_place (Some i) p = at_place (with_others l m) q (Some i) (same_places l m q ∙ p) ∙ sym (at_place l q (Some i) p)
    by_place None p =
        at_place (with_others l m) q None (same_places l m q ∙ p)
        ∙ (ap (λ es. option_map value_of (lookup (is_at (λ k. slice_cmp nat_cmp q k.items)) es)) e
        ∙ sym (at_place l q None p))

none_is_not : (l : Labels) (a b : List ℕ) (i : ℕ) → place_in l a ≡ None → place_in l b ≡ Some i →
    place_in l a ≡ place_in l b → ⊥
none_is_not l a b i p q e = absurd cc

some_is_not : (l : Labels) (a b : List ℕ) (i : ℕ) → place_in l a ≡ Some i → place_in l b ≡ None →
    place_in l a ≡ place_in l b → ⊥
some_is_not l a b i p q e = absurd cc

-- An expected name has its value, and no other name another one.
pub expected_added : (l : Labels) (e : Expected) (name : List ℕ) (v : LabelValue) (place : ℕ) (q : List ℕ) →
    place_in l name ≡ Some place → e.keys ≡ l.expected.keys →
    ((other : ℕ) → value_at e other ≡ (if other == place then Some v else value_at l.expected other)) →
    value_in (with_expected l e) q ≡ (if bytes_eq q name then Some (value_of v) else value_in l q)
expected_added l e name v place q there keys values = by_place (place_in l q) refl
  where
    by_place : (o : Option ℕ) → place_in l q ≡ o →
        value_in (with_expected l e) q ≡ (if bytes_eq q name then Some (value_of v) else value_in l q)
    by_place (Some i) p =
        at_place (with_expected l e) q (Some i) (places_kept l e q keys ∙ p)
        ∙ (ap (option_map value_of) (values i)
        ∙ (mapped_choice value_of (i == place) (bytes_eq q name) v (value_at l.expected i)
        (places_decide l q name i place p there)
        ∙ ap (λ o. cond (bytes_eq q name) (Some (value_of v)) o) (sym (at_place l q (Some i) p))))
    by_place None p =
        at_place (with_expected l e) q None (places_kept l e q keys ∙ p)
        ∙ (sym (at_place l q None p)
        ∙ ap (λ b. if b then Some (value_of v) else value_in l q)
        (sym (apart l q name (none_is_not l q name place p there))))

-- A name that is not expected has its value, and no other name another one.
pub other_added : (l : Labels) (m : Others) (name : List ℕ) (v : LabelValue) (key : Vec ℕ Global)
    (q : List ℕ) → place_in l name ≡ None → key.items ≡ name →
    m.entries ≡ insert_entry (λ x y. slice_cmp nat_cmp x.items y.items) l.others.entries key v →
    value_in (with_others l m) q ≡ (if bytes_eq q name then Some (value_of v) else value_in l q)
other_added l m name v key q there is given = by_place (place_in l q) refl
  where
    by_place : (o : Option ℕ) → place_in l q ≡ o →
        value_in (with_others l m) q ≡ (if bytes_eq q name then Some (value_of v) else value_in l q)
    by_place (Some i) p =
        at_place (with_others l m) q (Some i) (same_places l m q ∙ p)
        ∙ (sym (at_place l q (Some i) p)
        ∙ ap (λ b. if b then Some (value_of v) else value_in l q)
        (sym (apart l q name (some_is_not l q name i p there))))
    by_place None p =
        at_place (with_others l m) q None (same_places l m q ∙ p)
        ∙ (ap (λ es. option_map value_of (lookup (λ a. is_eq (slice_cmp nat_cmp q a.items)) es)) given
        ∙ (ap (option_map value_of) (lookup_inserted (λ a. a.items) key v q l.others.entries)
        ∙ (mapped_choice value_of _ (bytes_eq q name) v
        (lookup (λ a. is_eq (slice_cmp nat_cmp q a.items)) l.others.entries)
        (is_eq-slice_cmp q key.items ∙ ap (bytes_eq q) is)
        ∙ ap (λ o. cond (bytes_eq q name) (Some (value_of v)) o) (sym (at_place l q None p)))))
