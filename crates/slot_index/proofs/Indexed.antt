-- The invariant of an index, after each change.
use Rattle.std.proofs.Common.{◌≡◌, ◌≢◌, ℕ, zero, suc, ◌-◌, ◌<◌, ◌≤◌, true, false, cond, eqb, List, [], ◌∷◌}
use Rattle.std.proofs.Common.{◌++◌, length, get_or, set, take, Option, Some, None, refl, sym, ap, ◌∙◌, arith}
use Rattle.std.specs.Prelude.{is_some}
use Rattle.std.specs.List.{swap_remove}
use Rattle.std.specs.Option.{option_and_then}
use Rattle.std.proofs.lemmas.Bool.{cases_lt, cases_eq, cond-true, cond-false, eq-eqb, ne_eqb}
use Rattle.std.proofs.lemmas.List.{length_push, get_or_push, get_or_append_left, length-set, get_or-set_same}
use Rattle.std.proofs.lemmas.List.{get_or-set_other, get_or-take, length-take-le, get_or_default}
use borrow.Enum.Arm.{by_way}
use Rattle.bit_set.specs.Counts.{one_if, count_below, but_at}
use Rattle.bit_set.proofs.Counts.{count_agree, count_but_at, count_none}
use Rattle.slot_index.specs.Slots.{slot_in, slot_after, slot_without, is_key, IsIndexed}
use Rattle.slot_index.proofs.Found.{Has, HasOneSlot, slot_in-has, slot_in-at, slot_in-none}
use Rattle.slot_index.proofs.Found.{slot_in-absent, slot_in-one, slot_cases}

-- no two slots have one key
pub one_slot : {slots keys : List ℕ} {most capacity : ℕ} → IsIndexed slots keys most capacity
    → HasOneSlot keys
one_slot {slots} kept i j under_i under_j same =
    sym (kept.tells i under_i) ∙ ap (λ k. get_or slots k 0) same ∙ kept.tells j under_j

-- what the table tells of a key is its slot exactly where that slot has the key
pub told_slot : {slots keys : List ℕ} {most capacity : ℕ} → IsIndexed slots keys most capacity → (key : ℕ)
    → get_or slots key 0 < length keys → get_or keys (get_or slots key 0) 0 ≡ key
    → slot_in keys key ≡ Some (get_or slots key 0)
told_slot {slots} {keys} kept key lt here =
    ap (slot_in keys) (sym here) ∙ slot_in-one keys (one_slot kept) (get_or slots key 0) lt

pub told_none : {slots keys : List ℕ} {most capacity : ℕ} → IsIndexed slots keys most capacity → (key : ℕ)
    → (get_or slots key 0 < length keys → get_or keys (get_or slots key 0) 0 ≢ key) → slot_in keys key ≡ None
told_none {slots} {keys} kept key off =
    slot_in-none keys key (λ j lt here.
    let told : get_or slots key 0 ≡ j = ap (λ k. get_or slots k 0) (sym here) ∙ kept.tells j lt in
    off (omega (arith, told, lt)) (ap (λ s. get_or keys s 0) told ∙ here))

pub past_none : {slots keys : List ℕ} {most capacity : ℕ} → IsIndexed slots keys most capacity → (key : ℕ)
    → length slots ≤ key → slot_in keys key ≡ None
past_none {slots} {keys} kept key past =
    slot_in-none keys key (λ j lt here. absurd (omega (arith, past, here, kept.below j lt)))

-- a key more
pub added : {slots keys : List ℕ} {most capacity : ℕ} → IsIndexed slots keys most capacity → (key : ℕ)
    → key < length slots → length keys < most → slot_in keys key ≡ None
    → IsIndexed (set slots key (length keys)) (keys ++ key ∷ []) most capacity
added {slots} {keys} kept key lt room none =
    record {
      narrow = omega (arith, length-set slots key (length keys), kept.narrow);
      small = kept.small;
      reserved = kept.reserved;
      few = omega (arith, length_push keys key, room);
      below = λ slot under. by_way (cases_lt slot (length keys))
          (λ old. omega (
            arith,
            get_or_append_left keys (key ∷ []) 0 slot old,
            kept.below slot old,
            length-set slots key (length keys),
          ))
          (λ last. omega (arith, at_last slot under last, lt, length-set slots key (length keys)));
      tells = λ slot under. by_way (cases_lt slot (length keys))
          (λ old. ap (λ k. get_or (set slots key (length keys)) k 0)
          (get_or_append_left keys (key ∷ []) 0 slot old)
          ∙ get_or-set_other slots key (get_or keys slot 0) (length keys) 0
          (slot_in-absent keys key none slot old)
          ∙ kept.tells slot old)
          (λ last. ap (λ k. get_or (set slots key (length keys)) k 0) (at_last slot under last)
          ∙ get_or-set_same slots key (length keys) 0 lt ∙ omega (arith, last, under, length_push keys key));
    }
  where
    at_last : (slot : ℕ) → slot < length (keys ++ key ∷ []) → length keys ≤ slot
        → get_or (keys ++ key ∷ []) slot 0 ≡ key
    at_last slot under last = get_or_push keys key 0 slot (omega (arith, last, under, length_push keys key))

-- more room than before
pub wider : {slots keys : List ℕ} {most capacity : ℕ} → IsIndexed slots keys most capacity → (more : ℕ)
    → capacity ≤ more → IsIndexed slots keys most more
wider kept more le =
    record {
      narrow = kept.narrow;
      small = kept.small;
      reserved = omega (arith, kept.reserved, le);
      few = kept.few;
      below = kept.below;
      tells = kept.tells;
    }

-- no key
pub emptied : {slots keys : List ℕ} {most capacity : ℕ} → IsIndexed slots keys most capacity
    → IsIndexed slots [] most capacity
emptied kept =
    record {
      narrow = kept.narrow;
      small = kept.small;
      reserved = kept.reserved;
      few = omega arith;
      below = λ slot under. absurd (omega (arith, under));
      tells = λ slot under. absurd (omega (arith, under));
    }

-- ---- how many keys there are

pub counted : (limit : ℕ) (keys : List ℕ) → HasOneSlot keys
    → ((slot : ℕ) → slot < length keys → get_or keys slot 0 < limit)
    → count_below limit (is_key keys) ≡ length keys
counted limit [] one below = count_none limit (is_key [])
    (λ k lt. ap is_some (slot_in-none [] k (λ j under. absurd (omega (arith, under)))))
counted limit (x ∷ xs) one below =
    let rest = counted limit xs one_of_rest (λ slot lt. below (suc slot) (omega arith)) in
    let x_below : x < limit = below 0 (omega arith) in
    let x_absent : is_key xs x ≡ false = ap is_some (slot_in-none xs x absent) in
    let same = count_agree limit (is_key (x ∷ xs)) (but_at (is_key xs) x true) (λ k lt. first_or_rest k) in
    let one_more = count_but_at limit (is_key xs) x true x_below in
    omega (arith, rest, same, one_more, ap one_if x_absent)
  where
    one_of_rest : HasOneSlot xs
    one_of_rest i j under_i under_j e =
        let shifted : suc i ≡ suc j = one (suc i) (suc j) (omega arith) (omega arith) e in
        omega (arith, shifted)

    absent : (j : ℕ) → j < length xs → get_or xs j 0 ≢ x
    absent j under e = let shifted : suc j ≡ 0 = one (suc j) 0 (omega arith) (omega arith) e in absurd
        (omega (arith, shifted))

    suc_first : (k s : ℕ) → x ≢ k → ((j : ℕ) → j < s → get_or xs j 0 ≢ k) → (j : ℕ) → j < suc s
        → get_or (x ∷ xs) j 0 ≢ k
    suc_first k s ne first zero lt = ne
    suc_first k s ne first (suc j) lt = first j (omega arith)

    some_or_none : (k : ℕ) → (o : Option ℕ) → slot_in xs k ≡ o → x ≢ k
        → is_some (slot_in (x ∷ xs) k) ≡ is_some o
    some_or_none k (Some s) e ne =
        let has = slot_in-has xs k s e in
        ap is_some (slot_in-at (x ∷ xs) k (suc s)
        (record {
          within = omega (arith, has.within);
          here = has.here;
          first =
              suc_first k s ne has.first;
        }))
    some_or_none k None e ne =
        ap is_some (slot_in-none (x ∷ xs) k (suc_first k (length xs) ne (slot_in-absent xs k e)))

    first_or_rest : (k : ℕ) → is_key (x ∷ xs) k ≡ but_at (is_key xs) x true k
    first_or_rest k =
        by_way (cases_eq k x)
        (λ e. ap is_some (slot_in-at (x ∷ xs) k 0
        (record { within = omega arith; here = sym e; first = λ j lt. absurd (omega (arith, lt)) }))
        ∙ sym (cond-true _ true (is_key xs k) (eq-eqb k x e)))
        (λ ne. some_or_none k (slot_in xs k) refl (λ e. ne (sym e))
        ∙ sym (cond-false _ true (is_key xs k) (ne_eqb k x ne)))

-- ---- a key less

abbrev last_of : List ℕ → ℕ
last_of keys = length keys - 1

length-swap_remove : (keys : List ℕ) (gone d : ℕ) → gone < length keys
    → length (swap_remove keys gone d) ≡ last_of keys
length-swap_remove keys gone d lt =
    length-take-le (last_of keys) (set keys gone (get_or keys (last_of keys) d))
    (omega (arith, length-set keys gone (get_or keys (last_of keys) d)))

at_gone : (keys : List ℕ) (gone d : ℕ) → gone < last_of keys
    → get_or (swap_remove keys gone d) gone 0 ≡ get_or keys (last_of keys) 0
at_gone keys gone d lt =
    get_or-take (last_of keys) (set keys gone (get_or keys (last_of keys) d)) gone 0 lt
    ∙ get_or-set_same keys gone (get_or keys (last_of keys) d) 0 (omega arith)
    ∙ get_or_default keys (last_of keys) d 0 (omega arith)

at_other : (keys : List ℕ) (gone d j : ℕ) → j < last_of keys → j ≢ gone
    → get_or (swap_remove keys gone d) j 0 ≡ get_or keys j 0
at_other keys gone d j lt ne =
    get_or-take (last_of keys) (set keys gone (get_or keys (last_of keys) d)) j 0 lt
    ∙ get_or-set_other keys gone j (get_or keys (last_of keys) d) 0 ne

pub swap_remove-any : (keys : List ℕ) (gone d e : ℕ) → gone < length keys
    → swap_remove keys gone d ≡ swap_remove keys gone e
swap_remove-any keys gone d e lt = ap (λ k. take (last_of keys) (set keys gone k))
    (get_or_default keys (last_of keys) d e (omega arith))

below_removed : {slots keys : List ℕ} {most capacity : ℕ} → IsIndexed slots keys most capacity
    → (gone d j : ℕ) → gone < length keys → j < last_of keys
    → get_or (swap_remove keys gone d) j 0 < length slots
below_removed {slots} {keys} kept gone d j lt under =
    by_way (cases_eq j gone)
    (λ e. omega (
      arith,
      at_gone keys gone d (omega arith),
      ap (λ k. get_or (swap_remove keys gone d) k 0) e,
      kept.below (last_of keys) (omega arith),
    ))
    (λ ne. omega (arith, at_other keys gone d j under ne, kept.below j (omega arith)))

-- where the last key goes nothing moves
pub removed_last : {slots keys : List ℕ} {most capacity : ℕ} → IsIndexed slots keys most capacity
    → (gone d : ℕ) → gone < length keys → last_of keys ≤ gone
    → IsIndexed slots (swap_remove keys gone d) most capacity
removed_last {slots} {keys} kept gone d lt last =
    record {
      narrow = kept.narrow;
      small = kept.small;
      reserved = kept.reserved;
      few = omega (arith, length-swap_remove keys gone d lt, kept.few);
      below = λ j under. below_removed kept gone d j lt
          (omega (arith, under, length-swap_remove keys gone d lt));
      tells = λ j under.
          let in_rest : j < last_of keys = omega (arith, under, length-swap_remove keys gone d lt) in
          let ne : j ≢ gone = omega arith in
          ap (λ k. get_or slots k 0) (at_other keys gone d j in_rest ne) ∙ kept.tells j (omega arith);
    }

-- where another goes the last one gets its slot
pub removed : {slots keys : List ℕ} {most capacity : ℕ} → IsIndexed slots keys most capacity
    → (gone d moved : ℕ) → gone < last_of keys → moved ≡ get_or (swap_remove keys gone d) gone 0
    → IsIndexed (set slots moved gone) (swap_remove keys gone d) most capacity
removed {slots} {keys} kept gone d moved lt is =
    record {
      narrow = omega (arith, length-set slots moved gone, kept.narrow);
      small = kept.small;
      reserved = kept.reserved;
      few = omega (arith, size, kept.few);
      below = λ j under. omega (
        arith,
        below_removed kept gone d j (omega arith)
            (omega (arith, under, size)),
        length-set slots moved gone,
      );
      tells = λ j under. by_way (cases_eq j gone)
          (λ e. ap (λ k. get_or (set slots moved gone) (get_or (swap_remove keys gone d) k 0) 0) e
          ∙ ap (λ k. get_or (set slots moved gone) k 0) (sym is)
          ∙ get_or-set_same slots moved gone 0 moved_below ∙ sym e)
          (λ ne. ap (λ k. get_or (set slots moved gone) k 0)
          (at_other keys gone d j (omega (arith, under, size)) ne)
          ∙ get_or-set_other slots moved (get_or keys j 0) gone 0 (apart j (omega (arith, under, size)))
          ∙ kept.tells j (omega (arith, under, size)));
    }
  where
    size : length (swap_remove keys gone d) ≡ last_of keys
    size = length-swap_remove keys gone d (omega arith)

    was_last : moved ≡ get_or keys (last_of keys) 0
    was_last = is ∙ at_gone keys gone d lt

    moved_below : moved < length slots
    moved_below = omega (arith, was_last, kept.below (last_of keys) (omega arith))

    apart : (j : ℕ) → j < last_of keys → get_or keys j 0 ≢ moved
    apart j under e =
        let same : j ≡ last_of keys = one_slot kept j (last_of keys) (omega arith) (omega arith)
        (e ∙ was_last) in
        absurd (omega (arith, same, under))

-- the slots after that
pub slot_in-removed : {slots keys : List ℕ} {most capacity : ℕ} → IsIndexed slots keys most capacity
    → (gone d key : ℕ) → gone < length keys
    → slot_in (swap_remove keys gone d) key ≡ slot_without keys gone key
slot_in-removed {slots} {keys} kept gone d key lt =
    by_way (slot_cases keys key)
    (λ found. at_slot found.0 (slot_in-has keys key found.0 found.1)
    ∙ sym (ap (option_and_then (slot_after keys gone)) found.1))
    (λ none. slot_in-none rest key (absent none) ∙ sym (ap (option_and_then (slot_after keys gone)) none))
  where
    rest : List ℕ
    rest = swap_remove keys gone d

    size : length rest ≡ last_of keys
    size = length-swap_remove keys gone d lt

    one : HasOneSlot keys
    one = one_slot kept

    -- the slot that a key of the rest had
    came_from : (j : ℕ) → j < last_of keys
        → (old : ℕ) × (old < length keys) × (get_or rest j 0 ≡ get_or keys old
        0) × ((j ≡ gone → old ≡ last_of keys) × (j ≢ gone → old ≡ j))
    came_from j under =
        by_way (cases_eq j gone)
        (λ e. (
          last_of keys,
          omega arith,
          ap (λ k. get_or rest k 0) e
              ∙ at_gone keys gone d (omega arith),
          (λ _. refl, λ ne. absurd (ne e)),
        ))
        (λ ne. (j, omega arith, at_other keys gone d j under ne, (λ e. absurd (ne e), λ _. refl)))

    absent : slot_in keys key ≡ None → (j : ℕ) → j < length rest → get_or rest j 0 ≢ key
    absent none j under same =
        let from = came_from j (omega (arith, under, size)) in
        slot_in-absent keys key none from.0 from.1 (sym from.2 ∙ same)

    -- a key of the rest that is this one was the key of its slot
    old_slot : (slot j : ℕ) → Has keys key slot → (under : j < last_of keys) → get_or rest j 0 ≡ key
        → (j ≡ gone → slot ≡ last_of keys) × (j ≢ gone → slot ≡ j)
    old_slot slot j has under same =
        let from = came_from j under in
        let old : slot ≡ from.0 = one slot from.0 has.within from.1 (has.here ∙ sym same ∙ from.2) in
        (λ e. old ∙ from.3.0 e, λ ne. old ∙ from.3.1 ne)

    at_slot : (slot : ℕ) → Has keys key slot → slot_in rest key ≡ slot_after keys gone slot
    at_slot slot has =
        by_way (cases_eq slot gone)
        (λ e. slot_in-none rest key (λ j under same.
        let was = old_slot slot j has (omega (arith, under, size)) same in
        by_way (cases_eq j gone) (λ at. absurd (omega (arith, was.0 at, e, at, under, size)))
        (λ off. off (sym (was.1 off) ∙ e)))
        ∙ sym (cond-true (eqb slot gone) None (Some (cond (eqb slot (last_of keys)) gone slot))
        (eq-eqb slot gone e)))
        (λ ne. by_way (cases_eq slot (last_of keys))
        (λ e. slot_in-at rest key gone (record {
          within = omega (arith, size, e, ne, lt);
          here = at_gone keys gone d (omega (arith, e, ne, lt)) ∙ ap (λ k. get_or keys k 0) (sym e)
              ∙ has.here;
          first = λ j before same.
              let was = old_slot slot j has (omega (arith, before, lt)) same in
              let here : slot ≡ j = was.1 (omega (arith, before)) in
              absurd (omega (arith, here, e, before, lt));
        })
        ∙ sym (cond-false (eqb slot gone) None (Some (cond (eqb slot (last_of keys)) gone slot))
        (ne_eqb slot gone ne)
        ∙ ap Some (cond-true (eqb slot (last_of keys)) gone slot (eq-eqb slot (last_of keys) e))))
        (λ inner. slot_in-at rest key slot (record {
          within = omega (arith, size, inner, has.within);
          here = at_other keys gone d slot (omega (arith, inner, has.within)) ne ∙ has.here;
          first = λ j before same.
              let was = old_slot slot j has (omega (arith, before, inner, has.within)) same in
              by_way (cases_eq j gone) (λ at. inner (was.0 at))
              (λ off. absurd (omega (arith, was.1 off, before)));
        })
        ∙ sym (cond-false (eqb slot gone) None (Some (cond (eqb slot (last_of keys)) gone slot))
        (ne_eqb slot gone ne)
        ∙ ap Some (cond-false (eqb slot (last_of keys)) gone slot (ne_eqb slot (last_of keys) inner)))))
