-- The lines of a whole report, and that they have the form.
use Rattle.std.proofs.Common.{◌≡◌, ◌∙◌, ap, ap₂, sym, refl, subst, ℕ, ◌+◌, ◌<◌}
use Rattle.std.proofs.Common.{arith, Bool, true, false, List, [], ◌∷◌, ◌++◌, append_assoc, append-nil, length}
use Rattle.std.proofs.Common.{length-append}
use Rattle.std.proofs.Common.{drop, get_or, map, inl, inr}
use Rattle.std.specs.Prelude.{codes, replicate, All, if◌then◌else◌}
use Rattle.std.specs.List.{flat_map, list_all}
use Rattle.std.specs.Fmt.{decimal}
use Rattle.std.proofs.lemmas.Fmt.{decimal_digit}
use Rattle.std.proofs.lemmas.List.{length-replicate}
use Rattle.std.proofs.lemmas.List.Concat.{flat_map-append}
use Rattle.tx_journal.specs.Content.{Content}
use Rattle.tx_journal.specs.Image.{IsShown}
use Rattle.tx_journal.specs.Lines.{entry_text}
use Rattle.report_form.specs.declared.words.Name.TheVariants as name
use Rattle.report_form.specs.declared.words.Word.TheVariants.{Fixed}
use Rattle.report_form.specs.declared.rows.Row.TheVariants as row
use Rattle.report_form.specs.declared.lines.Part.{Part}
use Rattle.report_form.specs.Rows.{IsRow}
use Rattle.report_form.specs.Lines.{rows_of, Fit}
use Rattle.report_form.specs.Sheet.{HasForm, count_line, last_of, head_parts, cpus_parts}
use Rattle.report_form.specs.Sheet.{show_parts, history_parts, schedule_parts, history_at, schedule_at}
use Rattle.report_text.specs.Digits.{labelled, number_line}
use Rattle.report_text.specs.Report.{report_text, status_of}
use Rattle.report_text.specs.Shown.{Shown, ShownCpu}
use Rattle.tx_check.specs.Lines.{lines_of}
use Rattle.form_laws.specs.Reportable.{CanBeReported}
use Rattle.form_laws.proofs.Words.{word_then, word_last}
use Rattle.form_laws.proofs.Lists.{cpus_list, shows_list, schedule_list, head_list, behind_entries}
use Rattle.form_laws.proofs.Lists.{behind_head}
use Rattle.form_laws.proofs.Lists.{report_list, report_lines}
use Rattle.form_laws.proofs.Telling.{Tells, tells_more, tells_behind, fit_front}
use Rattle.form_laws.proofs.CpuRows.{cpus_tell}
use Rattle.form_laws.proofs.Places.{behind, there}
use Rattle.form_laws.proofs.ShowRows.{shows_tell}
use Rattle.form_laws.proofs.RunRows.{entries_tell, schedule_tells}

-- ---- the head

title_row : (last : ℕ) → IsRow last row.Title (codes "ZTX REPORT\n")
unfolding IsRow
title_row last =
    word_then (Fixed name.Ztx) _ _ (codes "ZTX") _ 32 refl refl (word_last (Fixed name.Report)
    (codes "REPORT") refl)

status_row : (last : ℕ) (finished : Bool)
    → IsRow last row.Status (number_line (codes "STATUS ") (if finished then 0 else 6))
unfolding IsRow number_line labelled
status_row last true =
    inl (word_then (Fixed name.Status) _ _ (codes "STATUS") _ 32 refl refl
    (word_last (Fixed name.Zero) (decimal 0) (decimal_digit 0 (omega arith))))
status_row last false =
    inr (word_then (Fixed name.Status) _ _ (codes "STATUS") _ 32 refl refl
    (word_last (Fixed name.Six) (decimal 6) (decimal_digit 6 (omega arith))))

head_tells : (image : Content) (s : Shown) → CanBeReported image s
    → Tells (last_of image) (rows_of (head_parts image)) (head_list s)
head_tells image s h =
    let last = last_of image in
    let some = h.some in
    let few = h.few in
    let count = h.count in
    let cpus = cpus_tell last 0 s.cpus (omega (arith, few)) (omega (arith, some, count)) h.cpus in
    let shows = shows_tell last s.storage s.shows h.bytes h.size (subst (All IsShown)
    (sym h.shows) h.shown) in
    let both = tells_behind last (rows_of (cpus_parts (length s.cpus))) (rows_of
    (flat_map show_parts s.shows))
    (cpus_list 0 s.cpus) (shows_list s.storage s.shows) cpus shows in
    let rows : rows_of (cpus_parts (length s.cpus)) ++ rows_of (flat_map show_parts s.shows)
    ≡ rows_of (cpus_parts (length image.cpus) ++ flat_map show_parts image.shows) =
    ap₂ (λ n shows. rows_of (cpus_parts n) ++ rows_of (flat_map show_parts shows)) count h.shows
    ∙ sym (flat_map-append (λ (p : Part). replicate p.count p.row) (cpus_parts (length image.cpus))
    (flat_map show_parts image.shows)) in
    tells_more last row.Title (codes "ZTX REPORT\n") _ _ (title_row last)
    (tells_more last row.Status (number_line (codes "STATUS ") (status_of s.cpus)) _ _
    (status_row last (list_all (λ (c : ShownCpu). c.finished) s.cpus))
    (subst (λ rs. Tells last rs (cpus_list 0 s.cpus ++ shows_list s.storage s.shows)) rows both))

-- ---- the form

within : (xs : List (List ℕ)) (x : List ℕ) (ys : List (List ℕ)) (n : ℕ) → length xs ≡ n
    → n < length (xs ++ x ∷ ys)
within xs x ys n is = let a = length-append xs (x ∷ ys) in omega (arith, a, is)

history_counted : (n : ℕ) → number_line (codes "HISTORY ") n ≡ count_line name.History n
unfolding number_line labelled
history_counted n = refl

schedule_counted : (n : ℕ) → number_line (codes "SCHEDULE ") n ≡ count_line name.Schedule n
unfolding number_line labelled
schedule_counted n = refl

one_row_each : (n : ℕ) → rows_of (history_parts n) ≡ replicate n row.Entry
one_row_each n = append-nil (replicate n row.Entry)

pub has_form : (image : Content) (s : Shown) → CanBeReported image s
    → HasForm image (lines_of (report_text s)) (length s.history) (length s.events)
has_form image s h =
    let last = last_of image in
    let head = head_tells image s h in
    let entries = entries_tell last s.history h.entries in
    let events = schedule_tells last s.events (let few = h.few in omega (arith, few)) h.events in
    let counted = number_line (codes "HISTORY ") (length s.history) in
    let recorded = number_line (codes "SCHEDULE ") (length s.events) in
    let n = length s.history in
    let lines = report_list s in
    let before = head_list s ++ counted ∷ map entry_text s.history in
    let again : before ++ recorded ∷ schedule_list s.events ≡ lines =
    append_assoc (head_list s) (counted ∷ map entry_text s.history) (behind_entries s) in
    let many : length (rows_of (history_parts n)) ≡ n =
    ap length (one_row_each n) ∙ length-replicate n row.Entry in
    let listed : length (map entry_text s.history) ≡ n = entries.count ∙ length-replicate n row.Entry in
    let headed : length (head_list s) ≡ history_at image = head.count in
    let at : length before ≡ schedule_at image n =
    (let a = length-append (head_list s) (counted ∷ map entry_text s.history) in
    omega (arith, a, many, listed, headed)) in
    let behind_counted : drop (history_at image + 1) lines ≡ behind_head s =
    behind (head_list s) counted (behind_head s) (history_at image) headed in
    let behind_recorded : drop (schedule_at image n + 1) lines ≡ schedule_list s.events =
    ap (drop (schedule_at image n + 1)) (sym again)
    ∙ behind before recorded (schedule_list s.events) (schedule_at image n) at in
    subst (λ ls. HasForm image ls n (length s.events)) (sym (report_lines s))
    (record {
      history = record {
        head = record {
          fit = fit_front last (rows_of (head_parts image)) (head_list s) (counted ∷ behind_head s) head.fit;
          count = record {
            fits = h.few_entries;
            there = within (head_list s) counted (behind_head s) (history_at image) headed;
            is = there (head_list s) counted (behind_head s) (history_at image) headed ∙ history_counted n;
          };
        };
        fit =
            subst (λ ls. Fit last (rows_of (history_parts n)) ls) (sym behind_counted)
            (subst (λ rows. Fit last rows (behind_head s)) (sym (one_row_each n))
            (fit_front last (replicate n row.Entry) (map entry_text s.history)
            (behind_entries s) entries.fit));
        count = record {
          fits = h.few_events;
          there =
              subst (λ (ls : List (List ℕ)). schedule_at image n < length ls) again
              (within before recorded (schedule_list s.events) (schedule_at image n) at);
          is =
              ap (λ (ls : List (List ℕ)). get_or ls (schedule_at image n) []) (sym again)
              ∙ there before recorded (schedule_list s.events) (schedule_at image n) at
              ∙ schedule_counted (length s.events);
        };
      };
      fit = subst (λ ls. Fit last (rows_of (schedule_parts (length s.events))) ls)
          (sym behind_recorded) events.fit;
      whole =
          let a = length-append before (recorded ∷ schedule_list s.events) in
          let b = ap length again in
          let c = events.count in
          omega (arith, a, b, c, at);
    })
