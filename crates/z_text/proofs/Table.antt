-- What a sorted table says after an entry was put in.
use Rattle.std.proofs.Common.{◌≡◌, ℕ, Bool, true, false, cond, List, [], ◌∷◌, Option, Some, refl, ap, ◌∙◌}
use Rattle.std.proofs.Common.{subst}
use Rattle.std.specs.Prelude.{option_map}
use Rattle.std.specs.BTreeMap.{insert_entry}
use Rattle.std.specs.Map.{lookup}
use Rattle.std.specs.Ordering.{nat_cmp, is_eq, match_ordering}
use Rattle.std.specs.Cmp.Lexicographic.{slice_cmp}
use Rattle.std.specs.declared.cmp.Ordering.{Ordering}
use Rattle.std.specs.declared.cmp.Ordering.TheVariants.{Less, Equal, Greater}
use Rattle.std.proofs.lemmas.Map.Lookups.{exact_bytes}

pub is_equal : (o : Ordering) → is_eq o ≡ true → o ≡ Equal
is_equal Less h = cc
is_equal Equal h = refl
is_equal Greater h = cc

written_twice : {Y : Type 0} (b : Bool) (x y z : Y) → cond b x z ≡ cond b x (cond b y z)
written_twice true x y z = refl
written_twice false x y z = refl

exchanged : {Y : Type 0} (a b : Bool) (x y z : Y) → (a ≡ true → b ≡ true → ⊥) →
    cond b y (cond a x z) ≡ cond a x (cond b y z)
exchanged true true x y z h = absurd (h refl refl)
exchanged true false x y z h = refl
exchanged false b x y z h = refl

-- Keys of any type that are compared by their texts.
module _ {K X : Type 0} (text : K → List ℕ) (k : K) (v : X) (q : List ℕ) where
  abbrev finds : K → Bool
  finds a = is_eq (slice_cmp nat_cmp q (text a))

  -- Of two keys that differ, not both have the text that is looked for.
  not_both : (a : K) → slice_cmp nat_cmp (text k) (text a) ≡ Greater → finds k ≡ true → finds a ≡ true → ⊥
  not_both a g h i =
      let e : q ≡ text k = exact_bytes q (text k) (is_equal _ h) in
      let j : is_eq (slice_cmp nat_cmp (text k) (text a)) ≡ true =
      subst (λ t. is_eq (slice_cmp nat_cmp t (text a)) ≡ true) e i in
      let n : is_eq (slice_cmp nat_cmp (text k) (text a)) ≡ false = ap is_eq g in cc

  abbrev Found : List (K × X) → List (K × X) → Type 0
  Found es new = lookup finds new ≡ cond (finds k) (Some v) (lookup finds es)

  pub lookup_inserted : (es : List (K × X)) →
      Found es (insert_entry (λ x y. slice_cmp nat_cmp (text x) (text y)) es k v)
  lookup_inserted [] = refl
  lookup_inserted (e ∷ es) = at_order (lookup_inserted es) (slice_cmp nat_cmp (text k) (text e.0)) refl
    where
      at_order : Found es (insert_entry (λ x y. slice_cmp nat_cmp (text x) (text y)) es k v) →
          (o : Ordering) → slice_cmp nat_cmp (text k) (text e.0) ≡ o →
          Found (e ∷ es) (match_ordering o ((k, v) ∷ e ∷ es) ((e.0, v) ∷ es) (e ∷
          insert_entry (λ x y. slice_cmp nat_cmp (text x) (text y)) es k v))
      at_order h Less o = refl
      at_order h Equal o =
          let rest : Option X = lookup finds es in
          let same : text k ≡ text e.0 = exact_bytes (text k) (text e.0) o in
          subst (λ t. cond (is_eq (slice_cmp nat_cmp q t)) (Some v) rest ≡
          cond (finds k) (Some v) (cond (is_eq (slice_cmp nat_cmp q t)) (Some e.1) rest)) same
          (written_twice (finds k) (Some v) (Some e.1) rest)
      at_order h Greater o =
          let rest : Option X = lookup finds es in ap (λ l. cond (finds e.0) (Some e.1) l) h ∙
          exchanged (finds k) (finds e.0) (Some v) (Some e.1) rest (not_both e.0 o)

pub mapped_choice : {X Y : Type 0} (f : X → Y) (b c : Bool) (x : X) (o : Option X) → b ≡ c →
    option_map f (cond b (Some x) o) ≡ cond c (Some (f x)) (option_map f o)
mapped_choice f true c x o e = rw (← e) refl
mapped_choice f false c x o e = rw (← e) refl
