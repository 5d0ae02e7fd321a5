-- What the calls of a table rest on, over its rows of marks.
use Rattle.std.proofs.Common.{◌≡◌, ◌≢◌, ℕ, ◌+◌, ◌-◌, ◌*◌, ◌^◌, ◌<◌, ◌≤◌, Bool, true, false, List, [], length}
use Rattle.std.proofs.Common.{get_or, Some, None, is_some, refl, sym, ap, ◌∙◌, arith}
use Rattle.std.specs.Prelude.{not}
use Rattle.std.specs.Int.{from_bool}
use Rattle.std.proofs.lemmas.Bool.{cases_lt, cases_Bool}
use Rattle.std.proofs.lemmas.List.{get_or_past}
use borrow.Enum.Arm.{by_way}
use Rattle.bit_set.specs.Bits.{IsNext, NoneMarked}
use Rattle.bit_set.specs.Counts.{one_if}
use Rattle.bit_set.proofs.Counts.{count_none, count_but_at}
use Rattle.line_table.specs.declared.table.Mode.{Mode}
use Rattle.line_table.specs.declared.table.Mode.TheVariants.{Shared, Exclusive}
use Rattle.line_table.specs.Sizes.{storage_lines, held_limit}
use Rattle.line_table.specs.Holders.{Holders, Holdings, mode_in, against, is_against, IsFirstHeld, lines_held}
use Rattle.line_table.specs.Holders.{nobody}
use Rattle.line_table.specs.Rows.{mode_from, IsKept}
use Rattle.line_table.proofs.Seen.{seen, seen_within, seen_past, is_some-mode_from, OthersShare}
use Rattle.line_table.proofs.Kept.{held_count}
use Rattle.line_table.proofs.Against.{none_against}

-- a line whose mark is clear is not held, and one whose mark is set is
pub unmarked : (held exclusive : List Bool) (cpu line : ℕ) → get_or held (cpu * storage_lines + line) false ≡ false
    → seen held exclusive cpu line ≡ None
unmarked held exclusive cpu line off =
    by_way (cases_lt line storage_lines)
    (λ low. seen_within held exclusive cpu line low ∙ ap (λ h. mode_from h (get_or exclusive line false)) off)
    (λ high. seen_past held exclusive cpu line high)

pub held_mark : (held exclusive : List Bool) (cpu line : ℕ) → seen held exclusive cpu line ≢ None
    → get_or held (cpu * storage_lines + line) false ≡ true
held_mark held exclusive cpu line some =
    by_way (cases_Bool (get_or held (cpu * storage_lines + line) false))
    (λ set. set)
    (λ off. absurd (some (unmarked held exclusive cpu line off)))

-- the same of a table that is seen so
pub held_marked : (held exclusive : List Bool) (v : Holdings) → mode_in v ≡ seen held exclusive
    → (cpu line : ℕ) → mode_in v cpu line ≢ None → get_or held (cpu * storage_lines + line) false ≡ true
held_marked held exclusive v now cpu line some =
    held_mark held exclusive cpu line (λ e. some (ap (λ (h : Holders). h cpu line) now ∙ e))

is_held : (held exclusive : List Bool) (cpu line : ℕ) → line < storage_lines
    → get_or held (cpu * storage_lines + line) false ≡ true → is_some (seen held exclusive cpu line) ≡ true
is_held held exclusive cpu line low set =
    ap is_some (seen_within held exclusive cpu line low)
    ∙ is_some-mode_from (get_or held (cpu * storage_lines + line) false) (get_or exclusive line false) ∙ set

-- ---- looking for a holder and for a line

pub first_line : (held exclusive : List Bool) (cpu from place : ℕ)
    → IsNext held (cpu * storage_lines + from) (cpu * storage_lines + storage_lines) place
    → IsFirstHeld (seen held exclusive cpu) from (place - cpu * storage_lines)
first_line held exclusive cpu from place next =
    let line_in : place - cpu * storage_lines < storage_lines = omega (arith, next.from_on, next.below) in
    let same : cpu * storage_lines + (place - cpu * storage_lines) ≡ place = omega (arith, next.from_on) in
    record {
      from_on = omega (arith, next.from_on);
      held = is_held held exclusive cpu (place - cpu * storage_lines) line_in (ap (λ k. get_or held k false) same
          ∙ next.marked);
      first = λ k le lt. unmarked held exclusive cpu k
          (next.first (cpu * storage_lines + k) (omega (arith, le)) (omega (arith, lt, same)));
    }

pub no_line : (held exclusive : List Bool) (cpu from : ℕ)
    → NoneMarked held (cpu * storage_lines + from) (cpu * storage_lines + storage_lines) → (line : ℕ) → from ≤ line
    → seen held exclusive cpu line ≡ None
no_line held exclusive cpu from none = λ line le.
    by_way (cases_lt line storage_lines)
    (λ low. unmarked held exclusive cpu line
    (none (cpu * storage_lines + line) (omega (arith, le)) (omega (arith, low))))
    (λ high. seen_past held exclusive cpu line high)

-- ---- the other holders of a line that is written

stays_shared : (mode : Mode) (mark x : Bool) → mode_from true mark ≡ Some mode
    → is_against mode (mode_from true x) ≡ false → (x ≡ false) × (mark ≡ false)
stays_shared Shared false false e off = (refl, refl)
stays_shared Shared false true e off = let n : true ≡ false = off in cc
stays_shared Shared true x e off = let n : Some Exclusive ≡ Some Shared = e in cc
stays_shared Exclusive mark false e off = let n : true ≡ false = off in cc
stays_shared Exclusive mark true e off = let n : true ≡ false = off in cc

-- ---- an empty table

pub opened : (width : ℕ) (held holders exclusive : List Bool) (counts : List ℕ) → length counts < 2 ^ 32
    → length counts ≤ width → width < length counts + 64 → length held ≡ length counts * storage_lines
    → length holders ≡ width * storage_lines → length exclusive ≡ storage_lines → ((k : ℕ) → get_or held k false ≡ false)
    → ((k : ℕ) → get_or holders k false ≡ false) → ((k : ℕ) → get_or counts k 0 ≡ 0)
    → IsKept width held holders exclusive counts
opened width held holders exclusive counts few wide narrow held_size holders_size exclusive_size no_line
    no_holder no_count =
    record {
      few = few;
      wide = wide;
      narrow = narrow;
      held_size = held_size;
      holders_size = holders_size;
      exclusive_size = exclusive_size;
      both = λ cpu line _ _. no_holder (line * width + cpu) ∙ sym (no_line (cpu * storage_lines + line));
      alone = λ cpu other line _ _ set _. let n : false ≡ true = sym (no_line (cpu * storage_lines + line))
          ∙ set in cc;
      counted = λ cpu _. no_count cpu
          ∙ sym (count_none storage_lines (λ line. get_or held (cpu * storage_lines + line) false)
          (λ line _. no_line (cpu * storage_lines + line)));
      within = λ cpu _. omega (arith, no_count cpu);
    }

pub nobody_seen : (held exclusive : List Bool) → ((k : ℕ) → get_or held k false ≡ false)
    → seen held exclusive ≡ nobody
nobody_seen held exclusive none =
    let at : (cpu line : ℕ) → seen held exclusive cpu line ≡ nobody cpu line =
    λ cpu line. unmarked held exclusive cpu line (none (cpu * storage_lines + line)) in
    λ i cpu line. at cpu line i

-- ---- of a table that keeps these marks and counts

module _ {width : ℕ} {held holders exclusive : List Bool} {counts : List ℕ}
    (kept : IsKept width held holders exclusive counts) where
  pub first_holder : (line from place : ℕ) → line < storage_lines
      → IsNext holders (line * width + from) (line * width + length counts) place
      → IsFirstHeld (λ cpu. seen held exclusive cpu line) from (place - line * width)
  first_holder line from place line_in next =
      let cpu_in : place - line * width < length counts = omega (arith, next.from_on, next.below) in
      let same : line * width + (place - line * width) ≡ place = omega (arith, next.from_on) in
      record {
        from_on = omega (arith, next.from_on);
        held = is_held held exclusive (place - line * width) line line_in
            (sym (kept.both (place - line * width) line cpu_in line_in)
            ∙ ap (λ k. get_or holders k false) same ∙ next.marked);
        first = λ k le lt.
            let k_in : k < length counts = omega (arith, lt, cpu_in) in
            unmarked held exclusive k line (sym (kept.both k line k_in line_in)
            ∙ next.first (line * width + k) (omega (arith, le)) (omega (arith, lt, same)));
      }

  pub no_holder : (line from : ℕ) → line < storage_lines
      → NoneMarked holders (line * width + from) (line * width + length counts) → (cpu : ℕ) → from ≤ cpu
      → seen held exclusive cpu line ≡ None
  no_holder line from line_in none = λ cpu le.
      unmarked held exclusive cpu line
      (by_way (cases_lt cpu (length counts))
      (λ low. sym (kept.both cpu line low line_in)
      ∙ none (line * width + cpu) (omega (arith, le)) (omega (arith, low)))
      (λ high. get_or_past held (cpu * storage_lines + line) false (omega (arith, kept.held_size, high))))

  pub free_share : (cpus cpu line : ℕ) (mode : Mode) (mark : Bool) → length counts ≡ cpus → line < storage_lines
      → against cpus (seen held exclusive) cpu line mode ≡ [] → mode_from true mark ≡ Some mode
      → OthersShare held exclusive cpu line mark
  free_share cpus cpu line mode mark size line_in free says = λ other ne set.
      let other_in : other < cpus = by_way (cases_lt other cpus)
      (λ low. low)
      (λ high. let n : false ≡ true =
      sym (get_or_past held (other * storage_lines + line) false (omega (arith, kept.held_size, high, size)))
      ∙ set in cc) in
      stays_shared mode mark (get_or exclusive line false) says
      (sym (ap (is_against mode) (seen_within held exclusive other line line_in
      ∙ ap (λ h. mode_from h (get_or exclusive line false)) set))
      ∙ none_against cpus (seen held exclusive) cpu line mode free other other_in ne)

  pub held_share : (cpu line : ℕ) → line < storage_lines → get_or held (cpu * storage_lines + line) false ≡ true
      → OthersShare held exclusive cpu line false
  held_share cpu line line_in mine = λ other ne set. (
    by_way (cases_Bool (get_or exclusive line false))
        (λ marks. absurd (ne (kept.alone cpu other line line_in marks mine set)))
        (λ off. off),
    refl,
  )

  -- a CPU that holds a line holds some
  pub some_counted : (cpu line : ℕ) → cpu < length counts → line < storage_lines
      → get_or held (cpu * storage_lines + line) false ≡ true → 1 ≤ get_or counts cpu 0
  some_counted cpu line cpu_in line_in mine =
      let row : ℕ → Bool = λ l. get_or held (cpu * storage_lines + l) false in
      omega (arith, kept.counted cpu cpu_in, count_but_at storage_lines row line false line_in, ap one_if mine)

  -- one line more where it was not held yet, and there is room for it
  pub counted_more : (cpu line : ℕ) → cpu < length counts
      → (seen held exclusive cpu line ≡ None → lines_held (seen held exclusive) cpu < held_limit)
      → (get_or counts cpu 0 + from_bool (not (get_or held (cpu * storage_lines + line) false)) + one_if
      (get_or held (cpu * storage_lines + line) false) ≡ get_or counts cpu 0 + 1)
      × (get_or counts cpu 0 + from_bool (not (get_or held (cpu * storage_lines + line) false)) ≤ held_limit)
  counted_more cpu line cpu_in room =
      by_way (cases_Bool (get_or held (cpu * storage_lines + line) false))
      (λ set.
      let none = ap (λ h. from_bool (not h)) set in
      let one = ap one_if set in
      (omega (arith, none, one), omega (arith, none, kept.within cpu cpu_in)))
      (λ off.
      let one = ap (λ h. from_bool (not h)) off in
      let none = ap one_if off in (
        omega (arith, none, one),
        omega
            (arith, one, held_count kept cpu cpu_in, room (unmarked held exclusive cpu line off)),
      ))
