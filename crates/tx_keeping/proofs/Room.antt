-- No CPU holds more lines than it may: before one line more than that is granted, there is one to give up.
use Rattle.std.proofs.Common.{◌≡◌, ◌≢◌, ℕ, zero, suc, ◌+◌, ◌<◌, ◌≤◌, Bool, true, false, List, ◌∷◌, Option}
use Rattle.std.proofs.Common.{Some, None, is_some, refl, sym, ap, subst, ◌∙◌, arith}
use Rattle.std.specs.Prelude.{◌||◌, not, nat_lt, filter}
use Rattle.std.specs.List.{range_with_len}
use Rattle.std.proofs.lemmas.Bool.{cases_Bool, cases_eq, cases_lt, cond-true, cond-false, or_cases, or_parts}
use Rattle.std.proofs.lemmas.Bool.{ltb-true, ltb-false, and_parts, and_from, not_from_false, or_right}
use borrow.Enum.Arm.{by_way}
use Rattle.bit_set.specs.Counts.{one_if, count_below, but_at}
use Rattle.bit_set.proofs.Counts.{count_agree, count_le, count_but_at, but_at-same, but_at-other}
use Rattle.line_table.specs.declared.table.Mode.{Mode}
use Rattle.line_table.specs.Sizes.{storage_lines, held_limit}
use Rattle.line_table.specs.Holders.{Holders, holding, lines_held}
use Rattle.line_table.proofs.Against.{holds_outside_for_one_more}
use Rattle.line_table.proofs.Seen.{holding_here, holding_other_line, holding_other_cpu}
use Rattle.tx_footprint.specs.Touched.{Sets}
use Rattle.tx_meaning.specs.declared.asking.Need.{Need}
use Rattle.tx_meaning.specs.Changes.{is_needed, is_spare, spare_line, lowest, giving_up, with_room, has_room}
use Rattle.tx_meaning.specs.Changes.{granting}
use Rattle.tx_keeping.proofs.Holding.{is_granted}
use Rattle.tx_keeping.proofs.Asking.{Shrinks}

abbrev pub AllWithin : Holders → Type 0
AllWithin held = (cpu : ℕ) → lines_held held cpu ≤ held_limit

pub shrinks_within : (held after : Holders) → Shrinks held after → AllWithin held → AllWithin after
shrinks_within held after shrinks within cpu =
    let less = count_le storage_lines (λ line. is_some (after cpu line)) (λ line. is_some (held cpu line))
    (λ line lt is. shrinks cpu line is) in
    omega (arith, less, within cpu)

-- what an attempt has touched and what a turn needs are together no more lines than a CPU may hold
pub record HasRoom (sets : Sets) (needs : List Need) : Type 0 where
  pub few : count_below storage_lines (λ line.
      (sets.fetched line || sets.stored line) || is_needed needs line) ≤ held_limit

-- ---- the lowest number that passes

none_passes : (test : ℕ → Bool) (a n : ℕ) → lowest (filter test (range_with_len a n)) ≡ None → (x : ℕ) → a ≤ x
    → x < a + n → test x ≡ false
none_passes test a zero none x low high = absurd (omega arith)
none_passes test a (suc n) none x low high =
    let rest = range_with_len (a + 1) n in
    by_way (cases_Bool (test a))
    (λ passes. absurd (let e : Some a ≡ None =
    sym (ap lowest (cond-true (test a) (a ∷ filter test rest) (filter test rest) passes)) ∙ none in cc))
    (λ off. by_way (cases_eq x a) (λ same. ap test same ∙ off)
    (λ ne. none_passes test (a + 1) n
    (sym (ap lowest (cond-false (test a) (a ∷ filter test rest) (filter test rest) off)) ∙ none) x
    (omega arith) (omega arith)))

-- a number that passes, and lies below the end
record IsLowest (test : ℕ → Bool) (end x : ℕ) : Type 0 where
  below : x < end
  passes : test x ≡ true

lowest_is : (test : ℕ → Bool) (a n x : ℕ) → lowest (filter test (range_with_len a n)) ≡ Some x
    → IsLowest test (a + n) x
lowest_is test a zero x h = absurd (let e : None ≡ Some x = h in cc)
lowest_is test a (suc n) x h =
    let rest = range_with_len (a + 1) n in
    by_way (cases_Bool (test a))
    (λ passes. let e : Some a ≡ Some x =
    sym (ap lowest (cond-true (test a) (a ∷ filter test rest) (filter test rest) passes)) ∙ h in
    let same : a ≡ x = cc in
    record { below = omega (arith, same); passes = ap test (sym same) ∙ passes })
    (λ off. let more = lowest_is test (a + 1) n x
    (sym (ap lowest (cond-false (test a) (a ∷ filter test rest) (filter test rest) off)) ∙ h) in
    record { below = omega (arith, more.below); passes = more.passes })

-- ---- how many lines are held

-- where one line of storage changes
changed_count : (held : Holders) (i line : ℕ) (mode : Option Mode) → line < storage_lines
    → lines_held (holding held i line mode) i + one_if (is_some (held i line))
    ≡ lines_held held i + one_if (is_some mode)
changed_count held i line mode lt =
    let f = λ (l : ℕ). is_some (held i l) in
    let same : lines_held (holding held i line mode) i ≡ count_below storage_lines (but_at f line (is_some mode)) =
    count_agree storage_lines (λ l. is_some (holding held i line mode i l)) (but_at f line (is_some mode))
    (λ l within. by_way (cases_eq l line)
    (λ e. ap (λ k. is_some (holding held i line mode i k)) e
    ∙ ap is_some (holding_here held i line mode) ∙ sym (but_at-same f line (is_some mode))
    ∙ ap (but_at f line (is_some mode)) (sym e))
    (λ ne. ap is_some (holding_other_line held i line mode i l ne)
    ∙ sym (but_at-other f line (is_some mode) l ne))) in
    ap (λ n. n + one_if (is_some (held i line))) same ∙ count_but_at storage_lines f line (is_some mode) lt

-- and where it is no line of storage
far_count : (held : Holders) (i line : ℕ) (mode : Option Mode) → storage_lines ≤ line
    → lines_held (holding held i line mode) i ≡ lines_held held i
far_count held i line mode far =
    count_agree storage_lines (λ l. is_some (holding held i line mode i l)) (λ l. is_some (held i l))
    (λ l within. let ne : l ≢ line = omega arith in ap is_some (holding_other_line held i line mode i l ne))

pub not_some : (o : Option Mode) → is_some o ≡ false → o ≡ None
not_some None h = refl
not_some (Some mode) h = absurd (let e : true ≡ false = h in cc)

-- ---- room is made

-- a line that is spare is given up, and is not the one that is wanted
spare_count : (held : Holders) (i line : ℕ) (sets : Sets) (needs : List Need) (spare : Option ℕ)
    → spare_line held i sets needs ≡ spare → held i line ≡ None → held_limit ≤ lines_held held i
    → HasRoom sets needs → is_needed needs line ≡ true → line < storage_lines → lines_held held i ≤ held_limit
    → (lines_held (giving_up held i spare) i + 1 ≤ held_limit) × (is_some
    (giving_up held i spare i line) ≡ false)
spare_count held i line sets needs None none free full room needed lt within =
    let kept = λ (l : ℕ). (sets.fetched l || sets.stored l) || is_needed needs l in
    let out = holds_outside_for_one_more held i line kept full room.few lt
    (or_right (sets.fetched line || sets.stored line) (is_needed needs line) needed) free in
    let passes : is_spare held i sets needs out.0 ≡ true =
    and_from (is_some (held i out.0)) (not (kept out.0)) out.1.held_line (not_from_false
    (kept out.0) out.1.not_kept) in
    let off = none_passes (is_spare held i sets needs) 0 storage_lines none out.0 (omega arith) (omega
    (arith, out.1.in_storage)) in
    absurd (let n : false ≡ true = sym off ∙ passes in cc)
spare_count held i line sets needs (Some gone) some free full room needed lt within =
    let low = lowest_is (is_spare held i sets needs) 0 storage_lines gone some in
    let parts = and_parts (is_some (held i gone))
    (not ((sets.fetched gone || sets.stored gone) || is_needed needs gone)) low.passes in
    let below : gone < storage_lines = omega (arith, low.below) in
    let count = changed_count held i gone None below in
    let one : one_if (is_some (held i gone)) ≡ 1 = ap one_if parts.0 in
    let ne : line ≢ gone = λ e. let n : false ≡ true = sym (ap is_some (ap (held i) (sym e) ∙ free))
    ∙ parts.0 in cc in (
      omega (arith, count, one, within),
      ap is_some (holding_other_line held i gone None i line ne ∙ free),
    )

granted_count : (b : Bool) (held : Holders) (i : ℕ) (sets : Sets) (needs : List Need) (need : Need)
    → has_room held i need.line ≡ b → lines_held held i ≤ held_limit → HasRoom sets needs
    → is_needed needs need.line ≡ true → need.line < storage_lines
    → lines_held (holding (with_room b held i sets needs) i need.line (Some need.mode)) i ≤ held_limit
granted_count true held i sets needs need is within room needed lt =
    let count = changed_count held i need.line (Some need.mode) lt in
    by_way (or_cases (is_some (held i need.line)) (nat_lt (lines_held held i) held_limit) is)
    (λ held_already. omega (arith, count, ap one_if held_already, within))
    (λ fewer. omega (arith, count, ltb-true (lines_held held i) held_limit fewer))
granted_count false held i sets needs need is within room needed lt =
    let parts = or_parts (is_some (held i need.line)) (nat_lt (lines_held held i) held_limit) is in
    let free = not_some (held i need.line) parts.0 in
    let full = ltb-false (lines_held held i) held_limit parts.1 in
    let made = giving_up held i (spare_line held i sets needs) in
    let less = spare_count held i need.line sets needs
    (spare_line held i sets needs) refl free full room needed lt
    within in
    let count = changed_count made i need.line (Some need.mode) lt in
    omega (arith, count, ap one_if less.1, less.0)

giving_shrinks : (held : Holders) (i : ℕ) (spare : Option ℕ) → Shrinks held (giving_up held i spare)
giving_shrinks held i None x line is = is
giving_shrinks held i (Some gone) x line is =
    by_way (cases_eq x i)
    (λ own. by_way (cases_eq line gone)
    (λ same. absurd (let n : false ≡ true = sym (ap is_some (holding_here held i gone None))
    ∙ ap (λ l. is_some (holding held i gone None i l)) (sym same)
    ∙ ap (λ y. is_some (holding held i gone None y line)) (sym own) ∙ is in cc))
    (λ ne. ap is_some (sym (holding_other_line held i gone None x line ne)) ∙ is))
    (λ ne. ap is_some (sym (holding_other_cpu held i gone None x line ne)) ∙ is)

room_shrinks : (b : Bool) (held : Holders) (i : ℕ) (sets : Sets) (needs : List Need)
    → Shrinks held (with_room b held i sets needs)
room_shrinks true held i sets needs = λ x line is. is
room_shrinks false held i sets needs = giving_shrinks held i (spare_line held i sets needs)

pub granting_within : (held : Holders) (i : ℕ) (sets : Sets) (needs : List Need) (need : Need)
    → AllWithin held
    → HasRoom sets needs → is_needed needs need.line ≡ true → AllWithin (granting i sets needs need held)
unfolding granting
granting_within held i sets needs need within room needed cpu =
    let got = is_granted held i sets needs need in
    by_way (cases_eq cpu i)
    (λ own. subst (λ c. lines_held (granting i sets needs need held) c ≤ held_limit) (sym own)
    (by_way (cases_lt need.line storage_lines)
    (λ lt. granted_count (has_room held i need.line) held i sets needs need refl (within i) room needed lt)
    (λ far.
    let made = with_room (has_room held i need.line) held i sets needs in
    let same = far_count made i need.line (Some need.mode) far in
    omega (
      arith,
      same,
      shrinks_within held made (room_shrinks (has_room held i need.line) held i sets needs) within i,
    ))))
    (λ ne.
    let same = count_agree storage_lines (λ line. is_some (granting i sets needs need held cpu line))
    (λ line. is_some (held cpu line)) (λ line lt. ap is_some (got.others cpu line ne)) in
    omega (arith, same, within cpu))
