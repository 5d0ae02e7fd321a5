-- Steps of a loop over a list, and over the items of a schedule.
use Rattle.std.proofs.Common.{◌≡◌, ℕ, ◌+◌, ◌<◌, ◌≤◌, List, [], ◌∷◌, length, map, get_or, drop, Result, Ok}
use Rattle.std.proofs.Common.{Err, refl, sym, ap, ◌∙◌, add-one}
use Rattle.std.proofs.Math.Seq.{drop-cons}
use Rattle.std.proofs.lemmas.List.{drop_all}
use denote.Ref.{Bor}
use Rattle.tx_journal.specs.declared.events.Event.{Event}
use Rattle.z_fields.specs.Chain.{◌>>=◌}
use Rattle.z_fields.specs.Schedule.{with_item, with_items}
use Rattle.z_fields.specs.Steps.{Gives}
use Rattle.z_fields.specs.declared.fault.Kind.{Kind}
use Rattle.z_fields.specs.declared.fault.LineFault.{LineFault}
use Rattle.z_fields.specs.declared.fault.LineFault.TheVariants as stops

pub drop_here : {X : Type 0} (xs : List X) (i : ℕ) (d : X) → i < length xs →
    drop i xs ≡ get_or xs i d ∷ drop (i + 1) xs
drop_here xs i d h = drop-cons xs i d h ∙ ap (λ j. get_or xs i d ∷ drop j xs) (sym (add-one i))

-- A turn of a loop over a list: what is left at i is the step at i, and then what is left at i + 1.
module _ {X P E : Type 0} (step : ℕ → X → P → Result P E) (over : ℕ → List X → P → Result P E)
    (at_end : (n : ℕ) (p : P) → over n [] p ≡ Ok p)
    (at_ok : (n : ℕ) (x : X) (xs : List X) (p q : P) → step n x p ≡ Ok q →
    over n (x ∷ xs) p ≡ over (n + 1) xs q)
    (at_err : (n : ℕ) (x : X) (xs : List X) (p : P) (e : E) → step n x p ≡ Err e → over n (x ∷ xs) p ≡ Err e)
    (xs : List X) (i n : ℕ) (p : P) (whole : Result P E) where
  pub goes_on : (d : X) (new : P) → i < length xs → over n (drop i xs) p ≡ whole →
      step n (get_or xs i d) p ≡ Ok new → over (n + 1) (drop (i + 1) xs) new ≡ whole
  goes_on d new h e s = sym (ap (λ l. over n l p) (drop_here xs i d h) ∙ at_ok n _ _ p new s) ∙ e

  pub fails_here : (d : X) (f : E) → i < length xs → over n (drop i xs) p ≡ whole →
      step n (get_or xs i d) p ≡ Err f → whole ≡ Err f
  fails_here d f h e s = sym e ∙ (ap (λ l. over n l p) (drop_here xs i d h) ∙ at_err n _ _ p f s)

  pub is_over : length xs ≤ i → over n (drop i xs) p ≡ whole → whole ≡ Ok p
  is_over h e = sym e ∙ (ap (λ l. over n l p) (drop_all i xs h) ∙ at_end n p)

abbrev pub Piece : Type 0
Piece = Bor (List ℕ)

-- ---- the items of a schedule

module _ (cpus : ℕ) where
  abbrev pub item_step : ℕ → Piece → List Event → Result (List Event) Kind
  item_step n l es = with_item cpus l.now es

  abbrev pub item_run : ℕ → List Piece → List Event → Result (List Event) Kind
  item_run n ls es = with_items cpus (map (λ x. x.now) ls) es

  item_end : (n : ℕ) (es : List Event) → item_run n [] es ≡ Ok es
  unfolding with_items
  item_end n es = refl

  item_ok : (n : ℕ) (x : Piece) (xs : List Piece) (p q : List Event) → item_step n x p ≡ Ok q →
      item_run n (x ∷ xs) p ≡ item_run (n + 1) xs q
  unfolding with_items
  item_ok n x xs p q e = ap (λ r. r >>= with_items cpus (map (λ y. y.now) xs)) e

  item_err : (n : ℕ) (x : Piece) (xs : List Piece) (p : List Event) (f : Kind) → item_step n x p ≡ Err f →
      item_run n (x ∷ xs) p ≡ Err f
  unfolding with_items
  item_err n x xs p f e = ap (λ r. r >>= with_items cpus (map (λ y. y.now) xs)) e

  pub items_go : (xs : List Piece) (i : ℕ) (p new : List Event) (whole : Result (List Event) Kind)
      (d : Piece) → i < length xs → item_run 0 (drop i xs) p ≡ whole →
      item_step 0 (get_or xs i d) p ≡ Ok new → item_run 0 (drop (i + 1) xs) new ≡ whole
  items_go xs i p new whole d h e s = goes_on item_step item_run item_end item_ok item_err xs i 0 p whole d
      new h e s

  pub items_fail : (xs : List Piece) (i : ℕ) (p new : List Event) (whole : Result (List Event) Kind)
      (d : Piece) (a : LineFault) → i < length xs → item_run 0 (drop i xs) p ≡ whole →
      Gives (Err a) (item_step 0 (get_or xs i d) p) new → Gives (Err a) whole new
  items_fail xs i p new whole d stops.Memory h e s = tt
  items_fail xs i p new whole d (stops.Failed f) h e s =
      fails_here item_step item_run item_end item_ok item_err xs i 0 p whole d f h e s

  pub items_over : (xs : List Piece) (i : ℕ) (p : List Event) (whole : Result (List Event) Kind) →
      length xs ≤ i → item_run 0 (drop i xs) p ≡ whole → whole ≡ Ok p
  items_over xs i p whole h e = is_over item_step item_run item_end item_ok item_err xs i 0 p whole h e
