-- Conflicts counted by line, one conflict more.
use Rattle.std.proofs.Common.{◌≡◌, ◌≢◌, ℕ, ◌+◌, ◌<◌, Bool, true, false, cond, List, [], ◌∷◌, ◌++◌, length}
use Rattle.std.proofs.Common.{get_or}
use Rattle.std.proofs.Common.{set, refl, sym, ap, ap₂, ◌∙◌, subst, arith, eqb, Some, ◌^◌, ◌≤◌}
use Rattle.std.proofs.Common.{take, append-nil}
use Rattle.std.specs.List.{range_with_len, flat_map}
use Rattle.std.proofs.lemmas.List.{take_more}
use Rattle.std.proofs.lemmas.Grind.{flat_map-append}
use Rattle.tx_journal.specs.declared.entries.Entry.{Entry}
use Rattle.std.specs.Prelude.{◌&&◌, not, count_by, slice_get}
use Rattle.std.proofs.lemmas.Bool.{cases_eq, eq-eqb, ne_eqb}
use Rattle.std.proofs.lemmas.List.{get_or-set_other, length-set, length-map}
use Rattle.std.proofs.lemmas.List.{same_lists}
use Rattle.std.proofs.lemmas.List.FromFn.{length-range_with_len, get_or-map-range_with_len}
use Rattle.std.proofs.lemmas.List.Sums.{sum_by_push, count_by-le-length}
use Rattle.std.proofs.lemmas.Option.{slice_get-get_or, get_or_from_slice_get, slice_get_within}
use borrow.Enum.Arm.{by_way}
use Rattle.bit_set.specs.Counts.{one_if}
use Rattle.z_regs.proofs.Elements.{put_is_there}
use Rattle.line_table.specs.Sizes.{storage_lines}
use Rattle.tx_heat.specs.Conflicts.{Conflict}
use Rattle.tx_heat.specs.Heats.{line_heat, heats, is_reject_at, is_abort_at, is_apart_at}
use Rattle.tx_heat.specs.Watched.{AreCounted, HasRoom, IsBelow}
use Rattle.tx_heat.specs.declared.counting.LineHeat.{LineHeat}
use Rattle.bit_set.proofs.Counts.{at_most_one}

abbrev plus : LineHeat → ℕ → ℕ → ℕ → LineHeat
plus h rejects aborts disjoint = record {
  rejects = h.rejects + rejects;
  aborts = h.aborts + aborts;
  disjoint = h.disjoint + disjoint;
}

bit_is : (b : Bool) → cond b 1 0 ≡ one_if b
bit_is true = refl
bit_is false = refl

-- one conflict more at some line
pub heat_more : (found : List Conflict) (c : Conflict) (line : ℕ) (here : Bool) → eqb c.line line ≡ here
    → line_heat (found ++ c ∷ []) line
    ≡ plus (line_heat found line) (one_if (here && c.rejected)) (one_if (here && not c.rejected))
    (one_if (here && c.apart))
heat_more found c line here e =
    let one = sum_by_push (λ x. cond (is_reject_at line x) 1 0) found c
    ∙ ap (λ b. count_by (is_reject_at line) found + b) (bit_is (is_reject_at line c)
    ∙ ap (λ b. one_if (b && c.rejected)) e) in
    let two = sum_by_push (λ x. cond (is_abort_at line x) 1 0) found c
    ∙ ap (λ b. count_by (is_abort_at line) found + b) (bit_is (is_abort_at line c)
    ∙ ap (λ b. one_if (b && not c.rejected)) e) in
    let three = sum_by_push (λ x. cond (is_apart_at line x) 1 0) found c
    ∙ ap (λ b. count_by (is_apart_at line) found + b) (bit_is (is_apart_at line c)
    ∙ ap (λ b. one_if (b && c.apart)) e) in
    ap₂ (λ (p : ℕ × ℕ) (d : ℕ). record { rejects = p.0; aborts = p.1; disjoint = d })
    (ap₂ (λ r a. (r, a)) one two) three

plus_nothing : (h : LineHeat) → plus h 0 0 0 ≡ h
plus_nothing h =
    let one : h.rejects + 0 ≡ h.rejects = omega arith in
    let two : h.aborts + 0 ≡ h.aborts = omega arith in
    let three : h.disjoint + 0 ≡ h.disjoint = omega arith in
    ap₂ (λ (p : ℕ × ℕ) (d : ℕ). record { rejects = p.0; aborts = p.1; disjoint = d })
    (ap₂ (λ r a. (r, a)) one two) three

-- at another line
pub heat_elsewhere : (found : List Conflict) (c : Conflict) (line : ℕ) → c.line ≢ line
    → line_heat (found ++ c ∷ []) line ≡ line_heat found line
heat_elsewhere found c line ne = heat_more found c line false (ne_eqb c.line line ne) ∙ plus_nothing (line_heat found line)

-- at its own
pub heat_here : (found : List Conflict) (c : Conflict) (line : ℕ) → c.line ≡ line
    → line_heat (found ++ c ∷ []) line
    ≡ plus (line_heat found line) (one_if c.rejected) (one_if (not c.rejected)) (one_if c.apart)
heat_here found c line is = heat_more found c line true (eq-eqb c.line line is)

-- ---- all lines

pub set_other : {X : Type 0} (lines : List X) (k j : ℕ) (v : X) → j < length lines → j ≢ k
    → slice_get (set lines k v) j ≡ slice_get lines j
set_other lines k j v lt ne =
    slice_get-get_or (set lines k v) j v (omega (arith, lt, length-set lines k v))
    ∙ ap (λ x. Some x) (get_or-set_other lines k j v v ne)
    ∙ sym (slice_get-get_or lines j v lt)

-- the conflict is counted at its line
pub counted_here : (lines : List LineHeat) (found : List Conflict) (c : Conflict) (v d : LineHeat)
    → c.line < length lines
    → v ≡ plus (get_or lines c.line d) (one_if c.rejected) (one_if (not c.rejected)) (one_if c.apart)
    → AreCounted lines found → AreCounted (set lines c.line v) (found ++ c ∷ [])
counted_here lines found c v d lt is before = record {
  size = length-set lines c.line v ∙ before.size;
  at = λ line low. by_way (cases_eq line c.line)
      (λ e.
      let low_here : c.line < storage_lines = omega (arith, lt, before.size) in
      let same : get_or lines c.line d ≡ line_heat found c.line =
      get_or_from_slice_get lines c.line (line_heat found c.line) d (before.at c.line low_here) in
      subst (λ l. slice_get (set lines c.line v) l ≡ Some (line_heat (found ++ c ∷ []) l)) (sym e)
      (put_is_there lines c.line v lt
      ∙ ap (λ x. Some x) (is
      ∙ ap (λ h. plus h (one_if c.rejected) (one_if (not c.rejected)) (one_if c.apart)) same
      ∙ sym (heat_here found c c.line refl))))
      (λ ne.
      set_other lines c.line line v (omega (arith, low, before.size)) ne ∙ before.at line low
      ∙ ap (λ x. Some x) (sym (heat_elsewhere found c line (λ e. ne (sym e)))));
}

-- a conflict of no line of storage
pub counted_past : (lines : List LineHeat) (found : List Conflict) (c : Conflict) → length lines ≤ c.line
    → AreCounted lines found → AreCounted lines (found ++ c ∷ [])
counted_past lines found c past before = record {
  size = before.size;
  at = λ line low.
      let other : c.line ≢ line = omega (arith, past, low, before.size) in
      before.at line low ∙ ap (λ x. Some x) (sym (heat_elsewhere found c line other));
}

-- ---- room

pub room_here : (lines : List LineHeat) (k : ℕ) (v d : LineHeat) (n : ℕ) (r a f : Bool) → k < length lines
    → v ≡ plus (get_or lines k d) (one_if r) (one_if a) (one_if f) → HasRoom lines (n + 1)
    → HasRoom (set lines k v) n
room_here lines k v d n r a f lt is room = record {
  each = λ j h e. by_way (cases_eq j k)
      (λ same.
      let there : Some v ≡ Some h =
      sym (put_is_there lines k v lt) ∙ ap (slice_get (set lines k v)) (sym same) ∙ e in
      let it : v ≡ h = cc in
      let before = room.each k (get_or lines k d) (slice_get-get_or lines k d lt) in
      subst (λ x. IsBelow x n) (sym is ∙ it) record {
        rejects = omega (arith, before.rejects, at_most_one r);
        aborts = omega (arith, before.aborts, at_most_one a);
        disjoint = omega (arith, before.disjoint, at_most_one f);
      })
      (λ ne.
      let inside : j < length lines = omega (arith, slice_get_within (set lines k v) j h e, length-set lines k v) in
      let before = room.each j h (sym (set_other lines k j v inside ne) ∙ e) in
      record {
        rejects = omega (arith, before.rejects);
        aborts = omega (arith, before.aborts);
        disjoint = omega (arith, before.disjoint);
      });
}

pub room_less : (lines : List LineHeat) (n k : ℕ) → k ≤ n → HasRoom lines n → HasRoom lines k
room_less lines n k le room = record {
  each = λ j h e.
      let before = room.each j h e in
      record {
        rejects = omega (arith, before.rejects, le);
        aborts = omega (arith, before.aborts, le);
        disjoint = omega (arith, before.disjoint, le);
      };
}

-- there is room while few conflicts are counted
pub room_counted : (lines : List LineHeat) (found : List Conflict) (n : ℕ) → AreCounted lines found
    → length found + n < 2 ^ 40 → HasRoom lines n
room_counted lines found n counted few = record {
  each = λ k h e.
      let low : k < storage_lines = omega (arith, slice_get_within lines k h e, counted.size) in
      let there : Some (line_heat found k) ≡ Some h = sym (counted.at k low) ∙ e in
      let it : line_heat found k ≡ h = cc in
      subst (λ x. IsBelow x n) it record {
        rejects = omega (arith, few, count_by-le-length (is_reject_at k) found);
        aborts = omega (arith, few, count_by-le-length (is_abort_at k) found);
        disjoint = omega (arith, few, count_by-le-length (is_apart_at k) found);
      };
}

-- all lines are those of the conflicts
pub heats_are : (lines : List LineHeat) (found : List Conflict) → AreCounted lines found → lines ≡ heats found
heats_are lines found counted =
    same_lists lines (heats found)
    (counted.size ∙ sym (length-range_with_len 0 storage_lines)
    ∙ sym (length-map (range_with_len 0 storage_lines) (line_heat found)))
    (λ k d lt.
    let low : k < storage_lines = omega (arith, lt, counted.size) in
    get_or_from_slice_get lines k (line_heat found k) d (counted.at k low)
    ∙ sym (get_or-map-range_with_len (line_heat found) 0 storage_lines k k d low (omega arith)))

-- all lines are alike, and have no conflict
pub cold_counted : (lines : List LineHeat) → length lines ≡ storage_lines
    → ((k : ℕ) (h : LineHeat) → slice_get lines k ≡ Some h → h ≡ line_heat [] 0) → AreCounted lines []
cold_counted lines size none = record {
  size = size;
  at = λ line low.
      let d : LineHeat = line_heat [] 0 in
      let lt : line < length lines = omega (arith, low, size) in
      let e = slice_get-get_or lines line d lt in
      e ∙ ap (λ x. Some x) (none line (get_or lines line d) e);
}

-- one entry more
pub aborts_more : (f : Entry → List Conflict) (entries : List Entry) (k : ℕ) (x : Entry) → k < length entries
    → get_or entries k x ≡ x → flat_map f (take (k + 1) entries) ≡ flat_map f (take k entries) ++ f x
aborts_more f entries k x lt at =
    ap (flat_map f) (take_more entries k x lt ∙ ap (λ y. take k entries ++ y ∷ []) at)
    ∙ flat_map-append f (take k entries) (x ∷ [])
    ∙ ap (λ l. flat_map f (take k entries) ++ l) (append-nil (f x))

pub plus_is : (v h : LineHeat) (r a f : ℕ) → v.rejects ≡ h.rejects + r → v.aborts ≡ h.aborts + a
    → v.disjoint ≡ h.disjoint + f → v ≡ plus h r a f
plus_is v h r a f one two three =
    ap₂ (λ (p : ℕ × ℕ) (d : ℕ). record { rejects = p.0; aborts = p.1; disjoint = d })
    (ap₂ (λ r a. (r, a)) one two) three

-- the same by what is told of the conflict
pub counted_as : (lines : List LineHeat) (found : List Conflict) (c : Conflict) (v d : LineHeat) (line : ℕ)
    (rejected disjoint : Bool) → c.line ≡ line → c.rejected ≡ rejected → c.apart ≡ disjoint → line < length lines
    → v ≡ plus (get_or lines line d) (one_if rejected) (one_if (not rejected)) (one_if disjoint)
    → AreCounted lines found → AreCounted (set lines line v) (found ++ c ∷ [])
counted_as lines found c v d line rejected disjoint here kind off lt is counted =
    subst (λ n. AreCounted (set lines n v) (found ++ c ∷ [])) here
    (counted_here lines found c v d (subst (λ n. n < length lines) (sym here) lt)
    (is ∙ ap (λ n. plus (get_or lines n d) (one_if rejected) (one_if (not rejected)) (one_if disjoint)) (sym here)
    ∙ ap (λ r. plus (get_or lines c.line d) (one_if r) (one_if (not r)) (one_if disjoint)) (sym kind)
    ∙ ap (λ f. plus (get_or lines c.line d) (one_if c.rejected) (one_if (not c.rejected)) (one_if f)) (sym off))
    counted)
