-- The slot of a key, found and after a change of the keys.
use Rattle.std.proofs.Common.{◌≡◌, ◌≢◌, ℕ, ◌<◌, ◌≤◌, cond, eqb, List, [], ◌∷◌, ◌++◌, length, get_or, take}
use Rattle.std.proofs.Common.{Option, Some, None, inl, inr, refl, sym, ap, ◌∙◌, arith}
use Rattle.std.specs.Prelude.{◌⊎◌}
use Rattle.std.specs.List.{position_or_len}
use Rattle.std.proofs.lemmas.Bool.{cases_lt, cases_eq, cond-true, cond-false, lt-ltb, le-ltb, eq-eqb, ne_eqb}
use Rattle.std.proofs.lemmas.Bool.{eqb-true, eqb-false}
use Rattle.std.proofs.lemmas.Option.{none-some}
use Rattle.std.proofs.lemmas.List.{length_push, get_or_push, get_or_append_left, get_or-take, length-take-le}
use Rattle.std.proofs.lemmas.List.Quantifiers.{position-Some}
use Rattle.std.proofs.lemmas.List.Sums.{position_or_len_is, fails_before_first}
use borrow.Enum.Arm.{by_way}
use Rattle.slot_index.specs.Slots.{slot_in}

-- the first slot that has the key
pub record Has (keys : List ℕ) (key slot : ℕ) : Type 0 where
  pub within : slot < length keys
  pub here : get_or keys slot 0 ≡ key
  pub first : (j : ℕ) → j < slot → get_or keys j 0 ≢ key

pub slot_in-has : (keys : List ℕ) (key slot : ℕ) → slot_in keys key ≡ Some slot → Has keys key slot
unfolding slot_in
slot_in-has keys key slot e =
    let found = position-Some (λ k. eqb k key) keys slot 0 e in
    record {
      within = found.0;
      here = eqb-true (get_or keys slot 0) key found.1;
      first = λ j lt. eqb-false (get_or keys j 0) key (found.2 j lt);
    }

pub slot_in-at : (keys : List ℕ) (key slot : ℕ) → Has keys key slot → slot_in keys key ≡ Some slot
unfolding slot_in
slot_in-at keys key slot has =
    let place : position_or_len (λ k. eqb k key) keys ≡ slot = position_or_len_is (λ k. eqb k key) keys slot
    0 (omega (arith, has.within)) (λ j lt. ne_eqb _ _ (has.first j lt)) (λ _. eq-eqb _ _ has.here) in
    cond-true _ (Some (position_or_len (λ k. eqb k key) keys)) None
    (lt-ltb _ _ (omega (arith, has.within, place))) ∙ ap Some place

pub slot_in-none : (keys : List ℕ) (key : ℕ) → ((j : ℕ) → j < length keys → get_or keys j 0 ≢ key)
    → slot_in keys key ≡ None
unfolding slot_in
slot_in-none keys key absent =
    let place : position_or_len (λ k. eqb k key) keys ≡ length keys = position_or_len_is (λ k. eqb k key)
    keys (length keys) 0 (omega arith) (λ j lt. ne_eqb _ _ (absent j lt))
    (λ lt. absurd (omega (arith, lt))) in
    cond-false _ (Some (position_or_len (λ k. eqb k key) keys)) None (le-ltb _ _ (omega (arith, place)))

-- a key has a slot or none
pub slot_cases : (keys : List ℕ) (key : ℕ)
    → ((slot : ℕ) × (slot_in keys key ≡ Some slot)) ⊎ (slot_in keys key ≡ None)
slot_cases keys key = option_cases (slot_in keys key)
  where
    option_cases : (o : Option ℕ) → ((slot : ℕ) × (o ≡ Some slot)) ⊎ (o ≡ None)
    option_cases (Some slot) = inl (slot, refl)
    option_cases None = inr refl

pub slot_in-absent : (keys : List ℕ) (key : ℕ) → slot_in keys key ≡ None → (j : ℕ) → j < length keys
    → get_or keys j 0 ≢ key
unfolding slot_in
slot_in-absent keys key none j lt =
    by_way (cases_lt (position_or_len (λ k. eqb k key) keys) (length keys))
    (λ under. absurd (none-some _ (sym none
    ∙ cond-true _ (Some (position_or_len (λ k. eqb k key) keys)) None (lt-ltb _ _ under))))
    (λ past. eqb-false (get_or keys j 0) key
    (fails_before_first (λ k. eqb k key) keys j 0 (omega (arith, past, lt))))

-- two slots of one key are the same where no two slots have one key
abbrev pub HasOneSlot : List ℕ → Type 0
HasOneSlot keys = (i j : ℕ) → i < length keys → j < length keys → get_or keys i 0 ≡ get_or keys j 0 → i ≡ j

pub slot_in-one : (keys : List ℕ) → HasOneSlot keys → (slot : ℕ) → slot < length keys
    → slot_in keys (get_or keys slot 0) ≡ Some slot
slot_in-one keys one slot lt =
    slot_in-at keys (get_or keys slot 0) slot (record {
      within = lt;
      here = refl;
      first = λ j before same. absurd (omega (arith, before, one j slot (omega arith) lt same));
    })

-- ---- changes of the keys

-- a key that had no slot has the next one now
pub slot_in-add : (keys : List ℕ) (key q : ℕ) → slot_in keys key ≡ None
    → slot_in (keys ++ key ∷ []) q ≡ cond (eqb q key) (Some (length keys)) (slot_in keys q)
slot_in-add keys key q none =
    by_way (cases_eq q key)
    (λ e. slot_in-at (keys ++ key ∷ []) q (length keys) (record {
      within = omega (arith, length_push keys key);
      here = get_or_push keys key 0 (length keys) refl ∙ sym e;
      first = λ j lt same. slot_in-absent keys key none j lt
          (sym (get_or_append_left keys (key ∷ []) 0 j lt) ∙ same ∙ e);
    }) ∙ sym (cond-true _ (Some (length keys)) (slot_in keys q) (eq-eqb q key e)))
    (λ ne. others ne ∙ sym (cond-false _ (Some (length keys)) (slot_in keys q) (ne_eqb q key ne)))
  where
    others : q ≢ key → slot_in (keys ++ key ∷ []) q ≡ slot_in keys q
    others ne =
        by_way (slot_cases keys q)
        (λ found.
        let has = slot_in-has keys q found.0 found.1 in
        slot_in-at (keys ++ key ∷ []) q found.0 (record {
          within = omega (arith, length_push keys key, has.within);
          here = get_or_append_left keys (key ∷ []) 0 found.0 has.within ∙ has.here;
          first = λ j lt same. has.first j lt
              (sym (get_or_append_left keys (key ∷ []) 0 j (omega (arith, lt, has.within))) ∙ same);
        }) ∙ sym found.1)
        (λ absent. slot_in-none (keys ++ key ∷ []) q (λ j lt same.
        by_way (cases_lt j (length keys))
        (λ under. slot_in-absent keys q absent j under
        (sym (get_or_append_left keys (key ∷ []) 0 j under) ∙ same))
        (λ last. ne (sym same ∙ ap (λ k. get_or (keys ++ key ∷ []) k 0)
        (omega (arith, lt, last, length_push keys key)) ∙ get_or_push keys key 0 (length keys) refl)))
        ∙ sym absent)

-- the first keys alone
pub slot_in-take : (keys : List ℕ) (n : ℕ) → n ≤ length keys → slot_in keys (get_or keys n 0) ≡ Some n
    → slot_in (take n keys) (get_or keys n 0) ≡ None
slot_in-take keys n le e =
    let has = slot_in-has keys (get_or keys n 0) n e in
    slot_in-none (take n keys) (get_or keys n 0) (λ j lt same.
    let under : j < n = omega (arith, lt, length-take-le n keys le) in
    has.first j under (sym (get_or-take n keys j 0 under) ∙ same))
