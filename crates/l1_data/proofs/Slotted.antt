-- The copy of a line, found by its slot, after each change.
use Rattle.std.proofs.Common.{◌≡◌, ◌≢◌, ℕ, ◌+◌, ◌-◌, ◌<◌, ◌≤◌, true, false, cond, eqb, List, [], ◌∷◌, ◌++◌, length}
use Rattle.std.proofs.Common.{get_or, set, Option, Some, None, is_some, IfSome, refl, sym, ap, subst, ◌∙◌}
use Rattle.std.proofs.Common.{arith, take, drop, append_assoc, drop-drop}
use Rattle.std.specs.List.{slice_get}
use Rattle.std.specs.Option.{option_and_then, option_map}
use Rattle.std.proofs.lemmas.Bool.{cases_eq, cond-true, cond-false, eq-eqb, ne_eqb}
use Rattle.std.proofs.lemmas.List.{get_or-set_same, get_or-set_other}
use Rattle.std.proofs.lemmas.Option.{slice_get-get_or}
use Rattle.bit_set.specs.Counts.{count_below}
use Rattle.bit_set.proofs.Counts.{count_agree}
use Rattle.slot_index.specs.Slots.{Slots, slot_in, slot_after, slot_without, is_key}
use borrow.Enum.Arm.{by_way}
use Rattle.slot_index.proofs.Found.{slot_in-has, slot_in-add, slot_in-none, slot_cases}
use Rattle.l1_data.specs.Sizes.{storage_lines, line_size}
use Rattle.l1_data.specs.Copies.{Kept, Copies, copies_of, with_copy, no_copies, copy_count, byte_in, IsSound}
use Rattle.l1_data.specs.Copies.{IsKept, laid}

-- the copy in the slot of a line
abbrev pub copy_at : List ℕ → List (List ℕ) → Copies
copy_at lines copies line = option_map (λ slot. get_or copies slot []) (slot_in lines line)

pub copies_of-kept : (v : Kept) (lines : List ℕ) (copies : List (List ℕ))
    → record { lines = lines; copies = copies } ≡ v → copies_of v ≡ copy_at lines copies
unfolding copies_of
copies_of-kept v lines copies e = ap copies_of (sym e)

pub copies_of-is : (lines : List ℕ) (copies : List (List ℕ))
    → copies_of (record { lines = lines; copies = copies }) ≡ copy_at lines copies
copies_of-is lines copies = copies_of-kept (record { lines = lines; copies = copies }) lines copies refl

pub is_some-copy_at : (lines : List ℕ) (copies : List (List ℕ)) (line : ℕ)
    → is_some (copy_at lines copies line) ≡ is_key lines line
is_some-copy_at lines copies line =
    by_way (slot_cases lines line)
    (λ found. ap (λ o. is_some (option_map (λ slot. get_or copies slot []) o)) found.1
    ∙ ap is_some (sym found.1))
    (λ none. ap (λ o. is_some (option_map (λ slot. get_or copies slot []) o)) none ∙ ap is_some (sym none))

at_found : (lines : List ℕ) (copies : List (List ℕ)) (line slot : ℕ) → slot_in lines line ≡ Some slot
    → copy_at lines copies line ≡ Some (get_or copies slot [])
at_found lines copies line slot e = ap (option_map (λ s. get_or copies s [])) e

at_none : (lines : List ℕ) (copies : List (List ℕ)) (line : ℕ) → slot_in lines line ≡ None
    → copy_at lines copies line ≡ None
at_none lines copies line e = ap (option_map (λ s. get_or copies s [])) e

pub none_kept : (copies : List (List ℕ)) → copy_at [] copies ≡ no_copies
none_kept copies i line = at_none [] copies line (slot_in-none [] line (λ j lt. absurd (omega (arith, lt)))) i

-- two lines with one slot are the same
same_line : (lines : List ℕ) (a b slot other : ℕ) → slot_in lines a ≡ Some slot
    → slot_in lines b ≡ Some other → other ≡ slot → b ≡ a
same_line lines a b slot other ea eb e =
    sym (slot_in-has lines b other eb).here ∙ ap (λ s. get_or lines s 0) e
    ∙ (slot_in-has lines a slot ea).here

at_with : (copies : Copies) (line q : ℕ) (copy now : Option (List ℕ)) → (q ≡ line → now ≡ copy)
    → (q ≢ line → now ≡ copies q) → now ≡ with_copy copies line copy q
at_with copies line q copy now here other =
    by_way (cases_eq q line)
    (λ e. here e ∙ sym (cond-true (eqb q line) copy (copies q) (eq-eqb q line e)))
    (λ ne. other ne ∙ sym (cond-false (eqb q line) copy (copies q) (ne_eqb q line ne)))

-- ---- a new copy in the next slot

pub installed : (lines : List ℕ) (copies : List (List ℕ)) (line n : ℕ) (copy : List ℕ)
    → slot_in lines line ≡ None → n ≡ length lines → n < length copies
    → copy_at (lines ++ line ∷ []) (set copies n copy) ≡ with_copy (copy_at lines copies) line (Some copy)
installed lines copies line n copy none is room i q = at q i
  where
    slot_now : (q : ℕ) → slot_in (lines ++ line ∷ []) q ≡ cond (eqb q line) (Some (length lines))
        (slot_in lines q)
    slot_now q = slot_in-add lines line q none

    here : (q : ℕ) → q ≡ line → copy_at (lines ++ line ∷ []) (set copies n copy) q ≡ Some copy
    here q e =
        at_found (lines ++ line ∷ []) (set copies n copy) q n
        (slot_now q ∙ cond-true (eqb q line) (Some (length lines)) (slot_in lines q) (eq-eqb q line e)
        ∙ ap Some (sym is))
        ∙ ap Some (get_or-set_same copies n copy [] room)

    other : (q : ℕ) → q ≢ line → copy_at (lines ++ line ∷ []) (set copies n copy) q ≡ copy_at lines copies q
    other q ne =
        let stays : slot_in (lines ++ line ∷ []) q ≡ slot_in lines q = slot_now q
        ∙ cond-false (eqb q line) (Some (length lines)) (slot_in lines q) (ne_eqb q line ne) in
        by_way (slot_cases lines q)
        (λ found.
        let has = slot_in-has lines q found.0 found.1 in
        at_found (lines ++ line ∷ []) (set copies n copy) q found.0 (stays ∙ found.1)
        ∙ ap Some (get_or-set_other copies n found.0 copy [] (λ e. absurd (omega (arith, e, is, has.within))))
        ∙ sym (at_found lines copies q found.0 found.1))
        (λ absent. at_none (lines ++ line ∷ []) (set copies n copy) q (stays ∙ absent)
        ∙ sym (at_none lines copies q absent))

    at : (q : ℕ) → copy_at (lines ++ line ∷ []) (set copies n copy) q ≡ with_copy (copy_at lines copies) line
        (Some copy) q
    at q = at_with (copy_at lines copies) line q (Some copy) _ (here q) (other q)

-- ---- a changed copy

pub changed : (lines : List ℕ) (copies : List (List ℕ)) (line slot : ℕ) (change : List ℕ → List ℕ)
    → slot_in lines line ≡ Some slot → slot < length copies
    → copy_at lines (set copies slot (change (get_or copies slot []))) ≡ with_copy (copy_at lines copies)
    line (option_map change (copy_at lines copies line))
changed lines copies line slot change e room i q =
    at_with (copy_at lines copies) line q (option_map change (copy_at lines copies line)) _ here other i
  where
    here : q ≡ line → copy_at lines (set copies slot (change (get_or copies slot []))) q ≡ option_map change
        (copy_at lines copies line)
    here is =
        at_found lines (set copies slot (change (get_or copies slot []))) q slot (ap (slot_in lines) is ∙ e)
        ∙ ap Some (get_or-set_same copies slot (change (get_or copies slot [])) [] room)
        ∙ sym (ap (option_map change) (at_found lines copies line slot e))

    other : q ≢ line → copy_at lines (set copies slot (change (get_or copies slot []))) q ≡ copy_at lines
        copies q
    other ne =
        by_way (slot_cases lines q)
        (λ found. at_found lines (set copies slot (change (get_or copies slot []))) q found.0 found.1
        ∙ ap Some (get_or-set_other copies slot found.0 (change (get_or copies slot [])) []
        (λ same. ne (same_line lines line q slot found.0 e found.1 same)))
        ∙ sym (at_found lines copies q found.0 found.1))
        (λ absent. at_none lines (set copies slot (change (get_or copies slot []))) q absent
        ∙ sym (at_none lines copies q absent))

-- the part of a copy from a place on is written over
pub laid_between : (copy : List ℕ) (at : ℕ) (bytes : List ℕ)
    → take at copy ++ (bytes ++ drop (at + length bytes - at) (drop at copy)) ≡ laid copy at bytes
laid_between copy at bytes =
    let size : at + length bytes - at ≡ length bytes = omega arith in
    ap (λ n. take at copy ++ (bytes ++ drop n (drop at copy))) size
    ∙ ap (λ rest. take at copy ++ (bytes ++ rest)) (drop-drop (length bytes) at copy)
    ∙ sym (append_assoc (take at copy) bytes (drop (at + length bytes) copy))

-- ---- a copy less, the last one in its slot

pub dropped : (lines now : List ℕ) (copies : List (List ℕ)) (line slot : ℕ) (moved : List ℕ)
    → slot_in lines line ≡ Some slot → slot < length copies → moved ≡ get_or copies (length lines - 1) []
    → ((key : ℕ) → slot_in now key ≡ slot_without lines slot key)
    → copy_at now (set copies slot moved) ≡ with_copy (copy_at lines copies) line None
dropped lines now copies line slot moved e room is slots i q =
    at_with (copy_at lines copies) line q None _ here other i
  where
    last : ℕ
    last = length lines - 1

    here : q ≡ line → copy_at now (set copies slot moved) q ≡ None
    here same =
        at_none now (set copies slot moved) q
        (slots q ∙ ap (option_and_then (slot_after lines slot)) (ap (slot_in lines) same ∙ e)
        ∙ cond-true (eqb slot slot) None (Some (cond (eqb slot last) slot slot)) (eq-eqb slot slot refl))

    other : q ≢ line → copy_at now (set copies slot moved) q ≡ copy_at lines copies q
    other ne =
        by_way (slot_cases lines q)
        (λ found. at_slot found.0 found.1 (λ same. ne (same_line lines line q slot found.0 e found.1 same)))
        (λ absent. at_none now (set copies slot moved) q (slots q ∙ ap (option_and_then (slot_after lines slot)) absent)
        ∙ sym (at_none lines copies q absent))
      where
        at_slot : (s : ℕ) → slot_in lines q ≡ Some s → s ≢ slot
            → copy_at now (set copies slot moved) q ≡ copy_at lines copies q
        at_slot s found off =
            let kept : slot_in now q ≡ Some (cond (eqb s last) slot s) = slots q
            ∙ ap (option_and_then (slot_after lines slot)) found
            ∙ cond-false (eqb s slot) None (Some (cond (eqb s last) slot s)) (ne_eqb s slot off) in
            by_way (cases_eq s last)
            (λ at_last. at_found now (set copies slot moved) q slot
            (kept ∙ ap Some (cond-true (eqb s last) slot s (eq-eqb s last at_last)))
            ∙ ap Some (get_or-set_same copies slot moved [] room ∙ is
            ∙ ap (λ k. get_or copies k []) (sym at_last))
            ∙ sym (at_found lines copies q s found))
            (λ inner. at_found now (set copies slot moved) q s
            (kept ∙ ap Some (cond-false (eqb s last) slot s (ne_eqb s last inner)))
            ∙ ap Some (get_or-set_other copies slot s moved [] off)
            ∙ sym (at_found lines copies q s found))

-- ---- what is read

pub byte_found : (lines : List ℕ) (copies : List (List ℕ)) (line slot at : ℕ)
    → slot_in lines line ≡ Some slot → at < length (get_or copies slot [])
    → Some (get_or (get_or copies slot []) at 0) ≡ byte_in (copy_at lines copies) line at
byte_found lines copies line slot at e lt =
    sym (ap (option_and_then (λ copy. slice_get copy at)) (at_found lines copies line slot e)
    ∙ slice_get-get_or (get_or copies slot []) at 0 lt)

pub counted_copies : (lines : List ℕ) (copies : List (List ℕ))
    → count_below storage_lines (is_key lines) ≡ copy_count (copy_at lines copies)
counted_copies lines copies = count_agree storage_lines (is_key lines) (λ line. is_some (copy_at lines copies line))
    (λ line lt. sym (is_some-copy_at lines copies line))

-- what the invariant says of the copies
pub sound : (index : Slots) (copies : List (List ℕ)) → IsKept index copies → length index.keys ≤ index.most
    → length index.keys ≡ count_below index.limit (is_key index.keys)
    → ((key : ℕ) → index.limit ≤ key → slot_in index.keys key ≡ None) → IsSound (copy_at index.keys copies)
sound index copies kept within counted below =
    record {
      few = omega (arith, kept.most, within, number);
      in_storage = λ line past. at_none index.keys copies line (below line (omega (arith, past, kept.limit)));
      sized = λ line. by_way (slot_cases index.keys line)
          (λ found. subst (λ o. IfSome o (λ copy. length copy ≡ line_size))
          (sym (at_found index.keys copies line found.0 found.1))
          (kept.sized found.0 (omega (
            arith,
            (slot_in-has index.keys line found.0 found.1).within,
            within,
            kept.most,
          ))))
          (λ none. subst (λ o. IfSome o (λ copy. length copy ≡ line_size))
          (sym (at_none index.keys copies line none)) tt);
    }
  where
    number : length index.keys ≡ copy_count (copy_at index.keys copies)
    number = counted ∙ ap (λ n. count_below n (is_key index.keys)) kept.limit
        ∙ counted_copies index.keys copies

pub none_before : (lines : List ℕ) (copies : List (List ℕ)) (line : ℕ)
    → is_some (copy_at lines copies line) ≡ false → slot_in lines line ≡ None
none_before lines copies line none =
    by_way (slot_cases lines line)
    (λ found. let n : true ≡ false = sym (ap is_some (at_found lines copies line found.0 found.1))
    ∙ none in cc)
    (λ absent. absent)
