-- What a table keeps beside what it is seen as stays true where one place is written; it makes the table
-- sound.
use Rattle.std.proofs.Common.{◌≡◌, ◌≢◌, ℕ, ◌+◌, ◌*◌, ◌/◌, ◌<◌, ◌≤◌, Bool, true, false, List, length, get_or}
use Rattle.std.proofs.Common.{set, Some, None, is_some, refl, sym, ap, ◌∙◌, arith}
use Rattle.std.proofs.lemmas.Bool.{cases_eq, cases_lt, cases_Bool}
use Rattle.std.proofs.lemmas.List.{length-set, get_or-set_same, get_or-set_other, get_or_past}
use Rattle.std.proofs.lemmas.Nat.{mul-add-lt, div-mul-add}
use borrow.Enum.Arm.{by_way}
use Rattle.bit_set.specs.Counts.{one_if, count_below, but_at}
use Rattle.bit_set.proofs.Counts.{count_agree, count_but_at, count_none, but_at-same, but_at-other}
use Rattle.line_table.specs.declared.table.Mode.TheVariants.{Shared, Exclusive}
use Rattle.line_table.specs.Sizes.{storage_lines, held_limit}
use Rattle.line_table.specs.Holders.{lines_held, IsSound}
use Rattle.line_table.specs.Rows.{mode_from, IsKept}
use Rattle.line_table.proofs.Seen.{seen, seen_within, seen_past, is_some-mode_from, OthersShare}

-- places in rows of one width are the same in the same row and column alone
pub same_place : (width row column row' column' : ℕ) → column < width → column' < width
    → row * width + column ≡ row' * width + column' → (row ≡ row') × (column ≡ column')
same_place width row column row' column' lt lt' e =
    let rows : row ≡ row' = sym (div-mul-add row width column lt) ∙ ap (λ n. n / width) e
    ∙ div-mul-add row' width column' lt' in
    let starts = ap (λ n. n * width) rows in
    (rows, omega (arith, starts, e))

-- the counts agree with the marks of a row in which one mark was written
row_written : (held : List Bool) (cpu line : ℕ) (mine : Bool) → cpu * storage_lines + line < length held
    → line < storage_lines
    → count_below storage_lines (λ l. get_or (set held (cpu * storage_lines + line) mine) (cpu * storage_lines + l) false) + one_if
    (get_or held (cpu * storage_lines + line) false) ≡ count_below storage_lines
    (λ l. get_or held (cpu * storage_lines + l) false) + one_if mine
row_written held cpu line mine place_in lt =
    let row : ℕ → Bool = λ l. get_or held (cpu * storage_lines + l) false in
    let alike =
    count_agree storage_lines (λ l. get_or (set held (cpu * storage_lines + line) mine) (cpu * storage_lines + l) false)
    (but_at row line mine)
    (λ l low. by_way (cases_eq l line)
    (λ e. ap (λ k. get_or (set held (cpu * storage_lines + line) mine) (cpu * storage_lines + k) false) e
    ∙ get_or-set_same held (cpu * storage_lines + line) mine false place_in
    ∙ sym (ap (but_at row line mine) e ∙ but_at-same row line mine))
    (λ ne.
    let apart : cpu * storage_lines + l ≢ cpu * storage_lines + line = λ e. ne (omega (arith, e)) in
    get_or-set_other held (cpu * storage_lines + line) (cpu * storage_lines + l) mine false apart
    ∙ sym (but_at-other row line mine l ne))) in
    omega (arith, alike, count_but_at storage_lines row line mine lt)

-- of a table that keeps these marks and counts, the line of one CPU is written: whether it holds the line,
-- whether exclusively, and how many lines it holds then
module _ {width : ℕ} {held holders exclusive : List Bool} {counts : List ℕ}
    (kept : IsKept width held holders exclusive counts) (cpu line : ℕ) (mine mark : Bool) (count : ℕ) where
  abbrev held' : List Bool
  held' = set held (cpu * storage_lines + line) mine

  abbrev holders' : List Bool
  holders' = set holders (line * width + cpu) mine

  abbrev exclusive' : List Bool
  exclusive' = set exclusive line mark

  abbrev counts' : List ℕ
  counts' = set counts cpu count

  -- one line more or less, where the line was not held before or is not any more
  abbrev Counts : Type 0
  Counts = count + one_if (get_or held (cpu * storage_lines + line) false) ≡ get_or counts cpu 0 + one_if mine

  pub kept_written : cpu < length counts → line < storage_lines → OthersShare held exclusive cpu line mark → Counts
      → count ≤ held_limit → IsKept width held' holders' exclusive' counts'
  kept_written cpu_in line_in share changed most =
      record {
        few = omega (arith, kept.few, counts_size);
        wide = omega (arith, kept.wide, counts_size);
        narrow = omega (arith, kept.narrow, counts_size);
        held_size = length-set held (cpu * storage_lines + line) mine ∙ kept.held_size
            ∙ ap (λ n. n * storage_lines) (sym counts_size);
        holders_size = length-set holders (line * width + cpu) mine ∙ kept.holders_size;
        exclusive_size = length-set exclusive line mark ∙ kept.exclusive_size;
        both = λ c l c_in l_in. both_at c l (omega (arith, c_in, counts_size)) l_in;
        alone = λ c d l l_in. alone_at c d l l_in;
        counted = λ c c_in. counted_at c (omega (arith, c_in, counts_size));
        within = λ c c_in. within_at c (omega (arith, c_in, counts_size));
      }
    where
      counts_size : length counts' ≡ length counts
      counts_size = length-set counts cpu count

      place_in : cpu * storage_lines + line < length held
      place_in = omega (arith, kept.held_size, cpu_in, line_in)

      place_in_row : line * width + cpu < length holders
      place_in_row =
          omega (
            arith,
            kept.holders_size,
            mul-add-lt line width cpu storage_lines line_in
                (omega (arith, kept.wide, cpu_in)),
          )

      both_at : (c l : ℕ) → c < length counts → l < storage_lines
          → get_or holders' (l * width + c) false ≡ get_or held' (c * storage_lines + l) false
      both_at c l c_in l_in =
          by_way (cases_eq (c * storage_lines + l) (cpu * storage_lines + line))
          (λ e.
          let column : l ≡ line = omega (arith, e, l_in, line_in) in
          let row : c ≡ cpu = omega (arith, e, l_in, line_in) in
          ap (λ n. get_or holders' (n * width + c) false) column
          ∙ ap (λ n. get_or holders' (line * width + n) false) row
          ∙ get_or-set_same holders (line * width + cpu) mine false place_in_row
          ∙ sym (ap (λ n. get_or held' n false) e
          ∙ get_or-set_same held (cpu * storage_lines + line) mine false place_in))
          (λ ne.
          let apart : l * width + c ≢ line * width + cpu = λ e.
          let same =
          same_place width l c line cpu (omega (arith, kept.wide, c_in))
          (omega (arith, kept.wide, cpu_in)) e in
          ne (omega (arith, same.0, same.1)) in
          get_or-set_other holders (line * width + cpu) (l * width + c) mine false apart
          ∙ kept.both c l c_in l_in
          ∙ sym (get_or-set_other held (cpu * storage_lines + line) (c * storage_lines + l) mine false ne))

      -- a holder of the line, if its new mark says exclusive, is the CPU itself
      only : (c : ℕ) → mark ≡ true → get_or held' (c * storage_lines + line) false ≡ true → c ≡ cpu
      only c marks holds =
          by_way (cases_eq c cpu)
          (λ e. e)
          (λ ne.
          let apart : c * storage_lines + line ≢ cpu * storage_lines + line = λ e. ne (omega (arith, e)) in
          let old = sym (get_or-set_other held (cpu * storage_lines + line) (c * storage_lines + line) mine false apart)
          ∙ holds in
          let off : false ≡ true = sym (share c ne old).1 ∙ marks in cc)

      alone_at : (c d l : ℕ) → l < storage_lines → get_or exclusive' l false ≡ true
          → get_or held' (c * storage_lines + l) false ≡ true → get_or held' (d * storage_lines + l) false ≡ true → d ≡ c
      alone_at c d l l_in excl first second =
          by_way (cases_eq l line)
          (λ e.
          let yes : mark ≡ true =
          sym (get_or-set_same exclusive line mark false (omega (arith, kept.exclusive_size, line_in)))
          ∙ ap (λ n. get_or exclusive' n false) (sym e) ∙ excl in
          only d yes (ap (λ n. get_or held' (d * storage_lines + n) false) (sym e) ∙ second)
          ∙ sym (only c yes (ap (λ n. get_or held' (c * storage_lines + n) false) (sym e) ∙ first)))
          (λ ne.
          let apart : (x : ℕ) → x * storage_lines + l ≢ cpu * storage_lines + line =
          λ x e. ne (omega (arith, e, l_in, line_in)) in
          kept.alone c d l l_in
          (sym (get_or-set_other exclusive line l mark false ne) ∙ excl)
          (sym (get_or-set_other held (cpu * storage_lines + line) (c * storage_lines + l) mine false (apart c)) ∙ first)
          (sym (get_or-set_other held (cpu * storage_lines + line) (d * storage_lines + l) mine false (apart d)) ∙ second))

      own_count : get_or counts' cpu 0 ≡ count
      own_count = get_or-set_same counts cpu count 0 cpu_in

      counted_at : (c : ℕ) → c < length counts
          → get_or counts' c 0 ≡ count_below storage_lines (λ l. get_or held' (c * storage_lines + l) false)
      counted_at c c_in =
          by_way (cases_eq c cpu)
          (λ e.
          let own : count ≡ count_below storage_lines (λ l. get_or held' (cpu * storage_lines + l) false) =
          omega (arith, changed, kept.counted cpu cpu_in, row_written held cpu line mine place_in line_in) in
          ap (λ n. get_or counts' n 0) e ∙ own_count ∙ own
          ∙ ap (λ n. count_below storage_lines (λ l. get_or held' (n * storage_lines + l) false)) (sym e))
          (λ ne.
          get_or-set_other counts cpu c count 0 ne ∙ kept.counted c c_in
          ∙ count_agree storage_lines (λ l. get_or held (c * storage_lines + l) false)
          (λ l. get_or held' (c * storage_lines + l) false)
          (λ l low.
          let apart : c * storage_lines + l ≢ cpu * storage_lines + line = λ e. ne (omega (arith, e, low, line_in)) in
          sym (get_or-set_other held (cpu * storage_lines + line) (c * storage_lines + l) mine false apart)))

      within_at : (c : ℕ) → c < length counts → get_or counts' c 0 ≤ held_limit
      within_at c c_in =
          by_way (cases_eq c cpu)
          (λ e. omega (arith, ap (λ n. get_or counts' n 0) e, own_count, most))
          (λ ne. omega (arith, get_or-set_other counts cpu c count 0 ne, kept.within c c_in))

-- ---- what the marks make of soundness

both_marked : (h x : Bool) → mode_from h x ≡ Some Exclusive → (h ≡ true) × (x ≡ true)
both_marked true true e = (refl, refl)
both_marked true false e = let n : Some Shared ≡ Some Exclusive = e in cc
both_marked false x e = let n : None ≡ Some Exclusive = e in cc

module _ {width : ℕ} {held holders exclusive : List Bool} {counts : List ℕ}
    (kept : IsKept width held holders exclusive counts) where
  pub held_count : (cpu : ℕ) → cpu < length counts
      → get_or counts cpu 0 ≡ lines_held (seen held exclusive) cpu
  held_count cpu cpu_in =
      kept.counted cpu cpu_in
      ∙ count_agree storage_lines (λ l. get_or held (cpu * storage_lines + l) false)
      (λ l. is_some (seen held exclusive cpu l))
      (λ l low. sym (ap is_some (seen_within held exclusive cpu l low)
      ∙ is_some-mode_from (get_or held (cpu * storage_lines + l) false) (get_or exclusive l false)))

  pub sound : IsSound (seen held exclusive)
  sound =
      record {
        alone = λ cpu other line e ne. by_way (cases_lt line storage_lines)
            (λ low.
            let marks =
            both_marked (get_or held (cpu * storage_lines + line) false) (get_or exclusive line false)
            (sym (seen_within held exclusive cpu line low) ∙ e) in
            seen_within held exclusive other line low
            ∙ by_way (cases_Bool (get_or held (other * storage_lines + line) false))
            (λ yes. absurd (ne (kept.alone cpu other line low marks.1 marks.0 yes)))
            (λ off. ap (λ h. mode_from h (get_or exclusive line false)) off))
            (λ high. seen_past held exclusive other line high);
        within = λ cpu. by_way (cases_lt cpu (length counts))
            (λ low. omega (arith, held_count cpu low, kept.within cpu low))
            (λ high. omega (
              arith,
              count_none storage_lines (λ l. is_some (seen held exclusive cpu l)) (λ l low.
                  ap is_some (seen_within held exclusive cpu l low)
                  ∙ is_some-mode_from (get_or held (cpu * storage_lines + l) false) (get_or exclusive l false)
                  ∙ get_or_past held (cpu * storage_lines + l) false (omega (arith, kept.held_size, high))),
            ));
      }
