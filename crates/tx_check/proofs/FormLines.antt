-- Where the lines of a report stand, and what stands behind its state.
use Rattle.std.proofs.Common.{◌≡◌, ◌∙◌, ap, ap₂, sym, refl, subst, ℕ, zero, suc, ◌+◌, ◌*◌, ◌/◌, ◌%◌, ◌<◌}
use Rattle.std.proofs.Common.{arith, List, [], ◌∷◌, ◌++◌, append_assoc, append-nil, length, length-append, take, drop}
use Rattle.std.proofs.Common.{get_or, map, inl, inr}
use Rattle.std.proofs.lemmas.Bool.{cases_lt}
use Rattle.std.specs.Prelude.{codes, replicate, slice_get, Some}
use Rattle.std.specs.Fmt.{decimal}
use Rattle.std.specs.List.{flat_map}
use Rattle.std.proofs.lemmas.List.{drop-drop, take-append-drop, length-replicate, length-drop}
use Rattle.std.proofs.lemmas.List.Concat.{flat_map-append}
use Rattle.std.proofs.lemmas.List.Folds.{flat_map-map}
use Rattle.std.proofs.Math.Seq.{drop-cons}
use Rattle.tx_journal.specs.Content.{Content}
use Rattle.tx_journal.specs.Lines.{entry_text, history_text}
use Rattle.tx_journal.specs.declared.entries.Entry.{Entry}
use Rattle.tx_journal.specs.declared.events.Event.{Event}
use Rattle.tx_journal.specs.Schedule.{schedule_text}
use Rattle.report_form.specs.declared.lines.Part.{Part}
use Rattle.report_form.specs.declared.rows.Row.{Row}
use Rattle.report_form.specs.declared.rows.Row.TheVariants as row
use Rattle.report_form.specs.declared.words.Name.TheVariants as name
use Rattle.report_form.specs.Rows.{IsRow}
use Rattle.report_form.specs.Lines.{rows_of, Fit}
use Rattle.report_form.specs.Sheet.{HasForm, history_at, schedule_at, last_of, head_parts, history_parts}
use Rattle.report_form.specs.Sheet.{schedule_parts, cpus_parts, cpu_parts, show_parts, count_line, rows_in}
use Rattle.report_text.specs.Digits.{labelled, number_line}
use Rattle.report_text.specs.Report.{history_lines, schedule_lines, run_part}
use Rattle.tx_check.specs.Sound.{joined, cpu_place}
use Rattle.tx_check.proofs.EventLines.{AreEvents, events_lines}
use Rattle.std.proofs.lemmas.Option.{same_Some}

-- ---- a line by its row

-- a line stands at a place, and tells what the row tells
pub record HasRow (last : ℕ) (r : Row) (lines : List (List ℕ)) (k : ℕ) : Type 0 where
  pub line : List ℕ
  pub there : slice_get lines k ≡ Some line
  pub row : IsRow last r line

pub fit_row : (last : ℕ) (rows : List Row) (lines : List (List ℕ)) (k : ℕ) (r : Row) → Fit last rows lines
    → slice_get rows k ≡ Some r → HasRow last r lines k
fit_row last [] lines k r fit at = absurd cc
fit_row last (q ∷ rows) [] k r fit at = absurd fit
fit_row last (q ∷ rows) (l ∷ lines) zero r fit at = record {
  line = l;
  there = refl;
  row = subst (λ (x : Row). IsRow last x l) (same_Some q r at) fit.0;
}
fit_row last (q ∷ rows) (l ∷ lines) (suc k) r fit at =
    let h = fit_row last rows lines k r fit.1 at in record { line = h.line; there = h.there; row = h.row }

-- ---- the rows of the CPUs

get_front : {A : Type 0} (xs ys : List A) (k : ℕ) (x : A) → slice_get xs k ≡ Some x → slice_get (xs ++ ys) k ≡ Some x
get_front [] ys k x at = absurd cc
get_front (y ∷ xs) ys zero x at = at
get_front (y ∷ xs) ys (suc k) x at = get_front xs ys k x at

get_behind : {A : Type 0} (xs ys : List A) (k : ℕ) → slice_get (xs ++ ys) (length xs + k) ≡ slice_get ys k
get_behind [] ys k = ap (slice_get ys) (omega arith)
get_behind (y ∷ xs) ys k =
    let place : length (y ∷ xs) + k ≡ suc (length xs + k) = omega arith in
    ap (slice_get ((y ∷ xs) ++ ys)) place ∙ get_behind xs ys k

cpus_rows : (n : ℕ) → rows_of (cpus_parts (suc n)) ≡ rows_of (cpus_parts n) ++ rows_of cpu_parts
cpus_rows n = flat_map-append (λ (p : Part). replicate p.count p.row) (cpus_parts n) cpu_parts

cpus_length : (n : ℕ) → length (rows_of (cpus_parts n)) ≡ 11 * n
cpus_length zero = refl
cpus_length (suc n) =
    let e = ap length (cpus_rows n) in
    let s = length-append (rows_of (cpus_parts n)) (rows_of cpu_parts) in
    let l = cpus_length n in
    let c : length (rows_of cpu_parts) ≡ 11 = refl in
    omega (arith, e, s, l, c)

-- the row with this number among those of a CPU
cpu_row : (n i j : ℕ) (r : Row) → i < n → slice_get (rows_of cpu_parts) j ≡ Some r
    → slice_get (rows_of (cpus_parts n)) (11 * i + j) ≡ Some r
cpu_row zero i j r below at = absurd (omega arith)
cpu_row (suc n) i j r below at =
    ap (λ rows. slice_get rows (11 * i + j)) (cpus_rows n) ∙ elim (cases_lt i n) [
      | inl low ↦
          get_front (rows_of (cpus_parts n)) (rows_of cpu_parts) (11 * i + j) r (cpu_row n i j r low at)
      | inr high ↦
          let s = cpus_length n in
          let place : 11 * i + j ≡ length (rows_of (cpus_parts n)) + j = omega (arith, s, below, high) in
          ap (λ k. slice_get (rows_of (cpus_parts n) ++ rows_of cpu_parts) k) place
          ∙ get_behind (rows_of (cpus_parts n)) (rows_of cpu_parts) j ∙ at
    ]

-- and among all of the report
pub cpu_line : (image : Content) (lines : List (List ℕ)) (entries events i j : ℕ) (r : Row)
    → HasForm image lines entries events → i < length image.cpus → slice_get (rows_of cpu_parts) j ≡ Some r
    → HasRow (last_of image) r lines (cpu_place i + j)
cpu_line image lines entries events i j r form below at =
    let cpus = rows_of (cpus_parts (length image.cpus)) in
    let shows = rows_of (flat_map show_parts image.shows) in
    let rows : rows_of (head_parts image) ≡ row.Title ∷ (row.Status ∷ (cpus ++ shows)) =
    ap (λ rest. row.Title ∷ (row.Status ∷ rest))
    (flat_map-append (λ (p : Part). replicate p.count p.row) (cpus_parts (length image.cpus))
    (flat_map show_parts image.shows)) in
    let place : cpu_place i + j ≡ suc (suc (11 * i + j)) = omega arith in
    let here : slice_get (row.Title ∷ (row.Status ∷ (cpus ++ shows))) (cpu_place i + j) ≡ Some r =
    ap (slice_get (row.Title ∷ (row.Status ∷ (cpus ++ shows)))) place
    ∙ get_front cpus shows (11 * i + j) r (cpu_row (length image.cpus) i j r below at) in
    fit_row (last_of image) (rows_of (head_parts image)) lines (cpu_place i + j) r form.history.head.fit
    (ap (λ rs. slice_get rs (cpu_place i + j)) rows ∙ here)

-- ---- the entries, and the events behind them

history_rows : (entries : ℕ) → rows_in (history_parts entries) ≡ entries
history_rows entries =
    ap length (append-nil (replicate entries row.Entry)) ∙ length-replicate entries row.Entry

pub history_size : (image : Content) (entries : ℕ) → schedule_at image entries ≡ history_at image + 1 + entries
history_size image entries = ap (λ n. history_at image + 1 + n) (history_rows entries)

counted : (n : ℕ) → count_line name.Schedule n ≡ number_line (codes "SCHEDULE ") n
unfolding number_line labelled
counted n = sym (append_assoc (codes "SCHEDULE ") (decimal n) (codes "\n"))

counted_entries : (n : ℕ) → count_line name.History n ≡ number_line (codes "HISTORY ") n
unfolding number_line labelled
counted_entries n = sym (append_assoc (codes "HISTORY ") (decimal n) (codes "\n"))

-- a line and those behind it
first_joined : (lines : List (List ℕ)) (at : ℕ) → at < length lines
    → joined (drop at lines) ≡ get_or lines at [] ++ joined (drop (at + 1) lines)
first_joined lines at there =
    let next : suc at ≡ at + 1 = omega arith in
    ap joined (drop-cons lines at [] there) ∙ ap (λ n. get_or lines at [] ++ joined (drop n lines)) next

-- the lines from the count of events on
pub record HasEvents (image : Content) (lines : List (List ℕ)) (entries : ℕ) : Type 0 where
  pub events : List Event
  pub told : joined (drop (schedule_at image entries) lines) ≡ schedule_lines events ++ codes "END\n"

pub events_read : (image : Content) (lines : List (List ℕ)) (entries events : ℕ)
    → HasForm image lines entries events → HasEvents image lines entries
unfolding schedule_lines
events_read image lines entries events form =
    let at = schedule_at image entries in
    let count = form.history.count in
    let size : length (drop (at + 1) lines) ≡ rows_in (schedule_parts events) =
    length-drop (at + 1) lines ∙ (let w = form.whole in omega (arith, w)) in
    let es : AreEvents (16 * (events / 16) + events % 16) (drop (at + 1) lines) =
    events_lines (last_of image) (events / 16) (events % 16) (drop (at + 1) lines) (omega arith) size form.fit in
    let many : length es.events ≡ events = es.size ∙ omega arith in
    record {
      events = es.events;
      told =
          first_joined lines at count.there
          ∙ ap₂ (λ (a b : List ℕ). a ++ b) (count.is ∙ counted events ∙ ap (number_line (codes "SCHEDULE ")) (sym many)) es.told
          ∙ sym (append_assoc (number_line (codes "SCHEDULE ") (length es.events)) (schedule_text es.events)
          (codes "END\n"));
    }

joined_entries : (history : List Entry) → joined (map entry_text history) ≡ history_text history
joined_entries history = flat_map-map (λ (l : List ℕ). l) entry_text history

-- all behind the state
pub run_told : (image : Content) (lines : List (List ℕ)) (entries events : ℕ) (history : List Entry)
    (recorded : List Event) → HasForm image lines entries events
    → map entry_text history ≡ take entries (drop (history_at image + 1) lines)
    → length history ≡ entries
    → joined (drop (schedule_at image entries) lines) ≡ schedule_lines recorded ++ codes "END\n"
    → joined (drop (history_at image) lines) ≡ run_part history recorded
unfolding run_part history_lines
run_told image lines entries events history recorded form texts many told =
    let at = history_at image in
    let count = form.history.head.count in
    let behind = drop (at + 1) lines in
    let rest : drop entries behind ≡ drop (schedule_at image entries) lines =
    drop-drop entries (at + 1) lines ∙ ap (λ n. drop n lines) (sym (history_size image entries)) in
    let cut : joined behind ≡ history_text history ++ joined (drop (schedule_at image entries) lines) =
    ap joined (sym (take-append-drop entries behind))
    ∙ flat_map-append (λ (l : List ℕ). l) (take entries behind) (drop entries behind)
    ∙ ap₂ (λ (a b : List ℕ). a ++ b) (ap joined (sym texts) ∙ joined_entries history) (ap joined rest) in
    first_joined lines at count.there
    ∙ ap₂ (λ (a b : List ℕ). a ++ b) (count.is ∙ counted_entries entries ∙ ap (number_line (codes "HISTORY ")) (sym many))
    (cut ∙ ap (λ t. history_text history ++ t) told)
    ∙ sym (append_assoc (number_line (codes "HISTORY ") (length history)) (history_text history)
    (schedule_lines recorded ++ codes "END\n"))
