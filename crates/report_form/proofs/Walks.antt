-- Lines against rows that are due one after the other.
use Rattle.std.proofs.Common.{◌≡◌, ℕ, zero, suc, ◌+◌, ◌-◌, ◌<◌, ◌≤◌, Bool, false, List, [], ◌∷◌, ◌++◌, length}
use Rattle.std.proofs.Common.{Decides, take, drop, append-nil, get_or, refl, sym, ap, subst, inl, inr, ◌∙◌, arith, length-append}
use Rattle.std.specs.Prelude.{replicate}
use Rattle.std.proofs.lemmas.Bool.{false≢true}
use Rattle.std.proofs.lemmas.List.Concat.{flat_map-append}
use Rattle.report_form.specs.declared.lines.Part.{Part}
use Rattle.std.proofs.lemmas.List.{replicate-append-replicate, replicate_more, length-replicate}
use Rattle.std.proofs.lemmas.List.{drop_all, drop-drop, take_more, take-append-drop}
use Rattle.std.proofs.Math.Seq.{drop-cons}
use Rattle.report_form.specs.declared.rows.Row.{Row}
use Rattle.report_form.specs.Rows.{IsRow}
use Rattle.report_form.specs.Lines.{rows_of, Fit, Faulty, Passes, Stops}

-- ---- one line

pub past_end : (last : ℕ) (row : Row) (lines : List (List ℕ)) (at : ℕ) → length lines ≤ at
    → Decides false (Fit last (row ∷ []) (drop at lines))
past_end last row lines at past =
    subst (λ ls. Decides false (Fit last (row ∷ []) ls)) (sym (drop_all at lines past))
    (λ t. absurd (false≢true t), λ h. absurd h)

pub one_line : (last : ℕ) (row : Row) (lines : List (List ℕ)) (line : List ℕ) (at : ℕ) (b : Bool)
    → at < length lines → get_or lines at [] ≡ line → Decides b (IsRow last row line)
    → Decides b (Fit last (row ∷ []) (drop at lines))
one_line last row lines line at b there is tells =
    subst (λ ls. Decides b (Fit last (row ∷ []) ls)) (sym (drop-cons lines at [] there))
    (λ t. (subst (IsRow last row) (sym is) (tells.0 t), tt), λ h. tells.1 (subst (IsRow last row) is h.0))

-- ---- rows behind rows

pub fit_append : (last : ℕ) (rows others : List Row) (lines : List (List ℕ)) → Fit last rows lines
    → Fit last others (drop (length rows) lines) → Fit last (rows ++ others) lines
fit_append last [] others lines fit more = more
fit_append last (r ∷ rows) others [] fit more = absurd fit
fit_append last (r ∷ rows) others (l ∷ lines) fit more =
    (fit.0, fit_append last rows others lines fit.1 more)

pub fault_behind : (last : ℕ) (rows others : List Row) (lines : List (List ℕ)) (k : ℕ) → Fit last rows lines
    → Faulty last others (drop (length rows) lines) k → Faulty last (rows ++ others) lines (length rows + k)
fault_behind last [] others lines k fit fault =
    let e : k ≡ length {A = Row} [] + k = omega arith in subst (Faulty last others lines) e fault
fault_behind last (r ∷ rows) others [] k fit fault = absurd fit
fault_behind last (r ∷ rows) others (l ∷ lines) k fit fault =
    inr (
      fit.0,
      record {
        before = length rows + k;
        counted = omega arith;
        fault = fault_behind last rows others lines k fit.1 fault;
      },
    )

pub fault_before : (last : ℕ) (rows others : List Row) (lines : List (List ℕ)) (k : ℕ)
    → Faulty last rows lines k → Faulty last (rows ++ others) lines k
fault_before last [] others lines k fault = absurd fault
fault_before last (r ∷ rows) others [] k fault = fault
fault_before last (r ∷ rows) others (l ∷ lines) k (inl here) = inl here
fault_before last (r ∷ rows) others (l ∷ lines) k (inr behind) =
    inr (
      behind.0,
      record {
        before = behind.1.before;
        counted = behind.1.counted;
        fault = fault_before last rows others lines behind.1.before behind.1.fault;
      },
    )

-- a row without its line
unfit_here : (last : ℕ) (r : Row) (rows : List Row) (lines : List (List ℕ)) → ¬ Fit last (r ∷ []) lines
    → Faulty last (r ∷ rows) lines 1
unfit_here last r rows [] none = refl
unfit_here last r rows (l ∷ lines) none = inl (refl, λ h. none (h, tt))

-- ---- so many lines of one row

pub one_more : (last : ℕ) (row : Row) (lines : List (List ℕ)) (at k place : ℕ) → place ≡ at + k
    → Fit last (replicate k row) (drop at lines) → Fit last (row ∷ []) (drop place lines)
    → Fit last (replicate (k + 1) row) (drop at lines)
one_more last row lines at k place is fit more =
    let behind : drop place lines ≡ drop (length (replicate k row)) (drop at lines) =
    ap (λ n. drop n lines) is ∙ sym (drop-drop k at lines)
    ∙ ap (λ n. drop n (drop at lines)) (sym (length-replicate k row)) in
    subst (λ rows. Fit last rows (drop at lines)) (replicate_more k row)
    (fit_append last (replicate k row) (row ∷ []) (drop at lines) fit
    (subst (λ ls. Fit last (row ∷ []) ls) behind more))

pub there : (last : ℕ) (row : Row) (lines : List (List ℕ)) (place : ℕ)
    → Fit last (row ∷ []) (drop place lines) → place < length lines
there last row [] zero fit = absurd fit
there last row [] (suc place) fit = absurd fit
there last row (l ∷ lines) zero fit = omega arith
there last row (l ∷ lines) (suc place) fit =
    let less = there last row lines place fit in omega arith

pub stopped : (last : ℕ) (row : Row) (lines : List (List ℕ)) (at k count place : ℕ) → place ≡ at + k
    → k < count → place ≤ length lines → Fit last (replicate k row) (drop at lines)
    → ¬ Fit last (row ∷ []) (drop place lines) → Stops last (replicate count row) lines at place
stopped last row lines at k count place is more within fit none =
    let left = count - suc k in
    let whole : k + suc left ≡ count = omega arith in
    let behind : drop place lines ≡ drop (length (replicate k row)) (drop at lines) =
    ap (λ n. drop n lines) is ∙ sym (drop-drop k at lines)
    ∙ ap (λ n. drop n (drop at lines)) (sym (length-replicate k row)) in
    let here : Faulty last (row ∷ replicate left row) (drop place lines) 1 =
    unfit_here last row (replicate left row) (drop place lines) none in
    let all : Faulty last (replicate k row ++ (row ∷ replicate left row)) (drop at lines)
    (length (replicate k row) + 1) =
    fault_behind last (replicate k row) (row ∷ replicate left row) (drop at lines) 1 fit
    (subst (λ ls. Faulty last (row ∷ replicate left row) ls 1) behind here) in
    let joined : replicate k row ++ (row ∷ replicate left row) ≡ replicate count row =
    replicate-append-replicate k (suc left) row ∙ ap (λ n. replicate n row) whole in
    record {
      before = length (replicate k row) + 1;
      fault =
          subst (λ rows. Faulty last rows (drop at lines) (length (replicate k row) + 1)) joined all;
      counted = let e = length-replicate k row in omega (arith, e);
      within = within;
    }

pub passed : (last : ℕ) (row : Row) (lines : List (List ℕ)) (at count place : ℕ) → place ≡ at + count
    → place ≤ length lines → Fit last (replicate count row) (drop at lines)
    → Passes last (replicate count row) lines at place
passed last row lines at count place is within fit = record {
  fit = fit;
  place = let e = length-replicate count row in omega (arith, e);
  within = within;
}

-- ---- parts behind parts

pub more_parts : (last : ℕ) (rows others : List Row) (lines : List (List ℕ)) (at place behind : ℕ)
    → Passes last rows lines at place → Passes last others lines place behind
    → Passes last (rows ++ others) lines at behind
more_parts last rows others lines at place behind first second =
    let same : drop (length rows) (drop at lines) ≡ drop place lines =
    drop-drop (length rows) at lines ∙ ap (λ n. drop n lines) (sym first.place) in
    record {
      fit =
          fit_append last rows others (drop at lines) first.fit
          (subst (Fit last others) (sym same) second.fit);
      place = let e = length-append rows others in omega (arith, e, first.place, second.place);
      within = second.within;
    }

pub later_stop : (last : ℕ) (rows others : List Row) (lines : List (List ℕ)) (at place stop : ℕ)
    → Passes last rows lines at place → Stops last others lines place stop
    → Stops last (rows ++ others) lines at stop
later_stop last rows others lines at place stop first second =
    let same : drop (length rows) (drop at lines) ≡ drop place lines =
    drop-drop (length rows) at lines ∙ ap (λ n. drop n lines) (sym first.place) in
    record {
      before = length rows + second.before;
      fault =
          fault_behind last rows others (drop at lines) second.before first.fit
          (subst (λ ls. Faulty last others ls second.before) (sym same) second.fault);
      counted = omega (arith, first.place, second.counted);
      within = second.within;
    }

pub first_stop : (last : ℕ) (rows others : List Row) (lines : List (List ℕ)) (at stop : ℕ)
    → Stops last rows lines at stop → Stops last (rows ++ others) lines at stop
first_stop last rows others lines at stop first = record {
  before = first.before;
  fault = fault_before last rows others (drop at lines) first.before first.fault;
  counted = first.counted;
  within = first.within;
}

abbrev rows_in : Part → List Row
rows_in p = replicate p.count p.row

pub stop_in : (last : ℕ) (parts : List Part) (i : ℕ) (d : Part) (lines : List (List ℕ)) (at place stop : ℕ)
    → i < length parts → Passes last (rows_of (take i parts)) lines at place
    → Stops last (rows_in (get_or parts i d)) lines place stop → Stops last (rows_of parts) lines at stop
stop_in last parts i d lines at place stop within first second =
    let x = get_or parts i d in
    let rest = drop (suc i) parts in
    let whole : rows_of (take i parts) ++ (rows_in x ++ rows_of rest) ≡ rows_of parts =
    sym (flat_map-append (λ (p : Part). rows_in p) (take i parts) (x ∷ rest))
    ∙ ap rows_of (ap (λ ps. take i parts ++ ps) (sym (drop-cons parts i d within)) ∙ take-append-drop i parts) in
    subst (λ rows. Stops last rows lines at stop) whole
    (later_stop last (rows_of (take i parts)) (rows_in x ++ rows_of rest) lines at place stop first
    (first_stop last (rows_in x) (rows_of rest) lines place stop second))

pub pass_more : (last : ℕ) (parts : List Part) (i : ℕ) (d : Part) (lines : List (List ℕ)) (at place behind : ℕ)
    → i < length parts → Passes last (rows_of (take i parts)) lines at place
    → Passes last (rows_in (get_or parts i d)) lines place behind
    → Passes last (rows_of (take (i + 1) parts)) lines at behind
pass_more last parts i d lines at place behind within first second =
    let x = get_or parts i d in
    let whole : rows_of (take i parts) ++ rows_in x ≡ rows_of (take (i + 1) parts) =
    ap (λ rows. rows_of (take i parts) ++ rows) (sym (append-nil (rows_in x)))
    ∙ sym (flat_map-append (λ (p : Part). rows_in p) (take i parts) (x ∷ []))
    ∙ ap rows_of (sym (take_more parts i d within)) in
    subst (λ rows. Passes last rows lines at behind) whole
    (more_parts last (rows_of (take i parts)) (rows_in x) lines at place behind first second)
