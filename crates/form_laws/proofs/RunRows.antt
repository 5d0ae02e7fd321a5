-- The lines of the history and of the recorded events.
use Rattle.std.proofs.Common.{◌≡◌, ◌∙◌, ap, sym, refl, subst, ℕ, suc, ◌+◌, ◌*◌, ◌/◌, ◌%◌, ◌<◌, ◌≤◌, ◌^◌}
use Rattle.std.proofs.Common.{arith, List, [], ◌∷◌, ◌++◌, append_assoc, append-nil, length, drop, map, inl}
use Rattle.std.proofs.Common.{inr}
use Rattle.std.specs.Prelude.{codes, replicate, min, All, ◌==◌, if◌then◌else◌}
use Rattle.std.specs.Fmt.{decimal}
use Rattle.std.proofs.lemmas.List.{length-take-le, length-drop, take_all}
use Rattle.std.proofs.lemmas.List.Elements.{All-head, All-tail, All-take, All-drop}
use Rattle.tx_journal.specs.declared.entries.Entry.{Entry}
use Rattle.tx_journal.specs.declared.events.Event.{Event}
use Rattle.tx_journal.specs.declared.events.Event.TheVariants.{Turn, External}
use Rattle.tx_journal.specs.Lines.{entry_text, fields_of, line_of}
use Rattle.tx_journal.specs.Schedule.{event_text, further_text, row_text}
use Rattle.tx_journal.proofs.ToldEntries.{spelled}
use Rattle.report_form.specs.declared.words.Name.TheVariants as name
use Rattle.report_form.specs.declared.words.Word.TheVariants.{Fixed}
use Rattle.report_form.specs.declared.words.Word.TheVariants as word
use Rattle.report_form.specs.declared.rows.Row.TheVariants as row
use Rattle.report_form.specs.Words.{IsEvent}
use Rattle.report_form.specs.Spelling.{Spelled}
use Rattle.report_form.specs.Rows.{IsRow, events_words}
use Rattle.report_form.specs.Lines.{rows_of}
use Rattle.report_form.specs.Sheet.{schedule_parts}
use Rattle.form_laws.specs.Reportable.{IsListed, IsKnown}
use Rattle.form_laws.proofs.Words.{word_then, word_last, a_number}
use Rattle.form_laws.proofs.Lists.{lines_to, events_at, events_piece, schedule_list}
use Rattle.form_laws.proofs.Telling.{Tells, tells_nothing, tells_row, tells_behind, tells_sixteens, sixteens}

-- ---- entries

entry_row : (last : ℕ) (e : Entry) → IsListed last e → IsRow last row.Entry (entry_text e)
unfolding IsRow
entry_row last e h =
    record { entry = fields_of (line_of e); spells = spelled e h.sound; known = h.known; few = h.few }

pub entries_tell : (last : ℕ) (history : List Entry) → All (IsListed last) history
    → Tells last (replicate (length history) row.Entry) (map entry_text history)
entries_tell last [] are = tells_nothing last
entries_tell last (e ∷ history) are =
    let h = All-head (IsListed last) e history are in
    let more = entries_tell last history (All-tail (IsListed last) e history are) in
    record { fit = (entry_row last e h, more.fit); count = ap suc more.count }

-- ---- events

event_word : (last : ℕ) (e : Event) → last < 2 ^ 64 → IsKnown last e → IsEvent last (event_text e)
event_word last (Turn cpu) fits known = inl (a_number last cpu (omega (arith, fits, known)) known)
event_word last (External cpu) fits known =
    inr record {
      rest = decimal cpu;
      behind = refl;
      cpu = a_number last cpu (omega
          (arith, fits, known)) known;
    }

events_then : (last : ℕ) (e : Event) (es : List Event) → last < 2 ^ 64 → IsKnown last e
    → All (IsKnown last) es
    → Spelled (word.Event last ∷ replicate (length es) (word.Event last))
    ((event_text e ++ further_text es) ++ 10 ∷ [])
events_then last e [] fits known more =
    subst (λ t. Spelled (word.Event last ∷ []) (t ++ 10 ∷ [])) (sym (append-nil (event_text e)))
    (word_last (word.Event last) (event_text e) (event_word last e fits known))
events_then last e (f ∷ es) fits known more =
    let behind = event_text f ++ further_text es in
    subst (Spelled (word.Event last ∷ word.Event last ∷ replicate (length es) (word.Event last)))
    (sym (append_assoc (event_text e) (44 ∷ behind) (10 ∷ [])))
    (word_then (word.Event last) (word.Event last) (replicate (length es) (word.Event last)) (event_text e)
    (behind ++ 10 ∷ []) 44 refl (event_word last e fits known)
    (events_then last f es fits (All-head (IsKnown last) f es more) (All-tail (IsKnown last) f es more)))

-- a line of so many events
events_row : (last n : ℕ) (es : List Event) → last < 2 ^ 64 → length es ≡ n → 0 < n → n ≤ 16
    → All (IsKnown last) es → IsRow last (row.Events n) (row_text es)
unfolding IsRow
events_row last n [] fits size some few known = absurd (omega (arith, size, some))
events_row last n (e ∷ es) fits size some few known =
    let many : suc (length es) ≡ min n 16 = omega (arith, size, few) in
    subst (λ k. Spelled (events_words last k) (row_text (e ∷ es))) many
    (word_then (Fixed name.Empty) _ _ [] _ 32 refl refl
    (word_then (Fixed name.Sched) _ _ (codes "SCHED") _ 32 refl refl
    (events_then last e es fits (All-head (IsKnown last) e es known) (All-tail (IsKnown last) e es known))))

-- ---- the lines of events

full : (events : List Event) (k : ℕ) → k < length events / 16 → length (events_at events k) ≡ 16
full events k below =
    length-take-le 16 (drop (16 * k) events) (let d = length-drop (16 * k) events in omega (arith, d, below))

rest : (events : List Event)
    → length (events_at events (length events / 16)) ≡ length events % 16
rest events =
    let k = length events / 16 in
    let d = length-drop (16 * k) events in
    let few : length (drop (16 * k) events) ≤ 16 = omega (arith, d) in
    ap length (take_all 16 (drop (16 * k) events) few) ∙ d ∙ omega arith

end_row : (last : ℕ) → IsRow last row.End (codes "END\n")
unfolding IsRow
end_row last = word_last (Fixed name.End) (codes "END") refl

-- the lines of the events, and the end
pub schedule_tells : (last : ℕ) (events : List Event) → last < 2 ^ 64 → All (IsKnown last) events
    → Tells last (rows_of (schedule_parts (length events))) (schedule_list events)
schedule_tells last events fits known =
    let n = length events in
    let part = λ (k : ℕ).
    All-take (IsKnown last) 16 (drop (16 * k) events) (All-drop (IsKnown last) (16 * k) events known) in
    let lines = tells_sixteens last n (row.Events 16) (row.Events (n % 16)) (events_piece events)
    (λ k below. events_row last 16 (events_at events k) fits (full events k below) (omega arith) (omega arith)
    (part k))
    (λ some. events_row last (n % 16) (events_at events (n / 16)) fits (rest events) some (omega arith)
    (part (n / 16))) in
    subst (λ rows. Tells last rows (schedule_list events))
    (append_assoc (replicate (n / 16) (row.Events 16))
    (replicate (if n % 16 == 0 then 0 else 1) (row.Events (n % 16))) (row.End ∷ []))
    (tells_behind last (sixteens n (row.Events 16) (row.Events (n % 16))) (row.End ∷ [])
    (lines_to (events_piece events) ((n + 15) / 16)) (codes "END\n" ∷ []) lines
    (tells_row last row.End (codes "END\n") (end_row last)))
