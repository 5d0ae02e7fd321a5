-- The lines of events, read back: which events they are.
use Rattle.std.proofs.Common.{◌≡◌, ◌∙◌, ap, ap₂, sym, refl, subst, ℕ, zero, suc, ◌+◌, ◌*◌, ◌/◌, ◌<◌, arith}
use Rattle.std.proofs.Common.{List, [], ◌∷◌, ◌++◌, append_assoc, append-nil, length, length-append, take, drop, inl, inr}
use Rattle.std.proofs.Common.{Bool, false}
use Rattle.std.specs.Prelude.{codes, replicate, min, ◌==◌, if◌then◌else◌}
use Rattle.std.proofs.lemmas.List.{take_all}
use Rattle.std.proofs.Math.Seq.{drop-append_seam, take-append_seam}
use Rattle.tx_journal.specs.declared.events.Event.{Event}
use Rattle.tx_journal.specs.declared.events.Event.TheVariants.{Turn, External}
use Rattle.tx_journal.specs.Schedule.{event_text, further_text, row_text, rows_text, schedule_text}
use Rattle.report_form.specs.declared.words.Name.TheVariants as name
use Rattle.report_form.specs.declared.words.Word.TheVariants.{Fixed}
use Rattle.report_form.specs.declared.words.Word.TheVariants as word
use Rattle.report_form.specs.declared.rows.Row.{Row}
use Rattle.report_form.specs.declared.rows.Row.TheVariants as row
use Rattle.report_form.specs.Words.{IsEvent}
use Rattle.report_form.specs.Spelling.{Spelled}
use Rattle.report_form.specs.Rows.{IsRow, events_words}
use Rattle.report_form.specs.Lines.{Fit}
use Rattle.tx_check.specs.Sound.{joined}
use Rattle.tx_journal.proofs.OneSchedule.{drop_more}

-- ---- one event

-- a text is that of an event
record AnEvent (text : List ℕ) : Type 0 where
  event : Event
  told : text ≡ event_text event

an_event : (last : ℕ) (text : List ℕ) → IsEvent last text → AnEvent text
an_event last text (inl n) = record { event = Turn n.number; told = n.spelled }
an_event last text (inr x) = record {
  event = External x.cpu.number;
  told = x.behind ∙ ap (λ t. 88 ∷ t) x.cpu.spelled;
}

-- ---- one line

-- a text is that of an event and so many further ones, with the end of the line
record Events (count : ℕ) (text : List ℕ) : Type 0 where
  first : Event
  others : List Event
  size : length others ≡ count
  told : text ≡ event_text first ++ (further_text others ++ 10 ∷ [])

events_in : (last n : ℕ) (text : List ℕ) → Spelled (word.Event last ∷ replicate n (word.Event last)) text
    → Events n text
unfolding Spelled
events_in last zero text h =
    let e = an_event last h.front h.is_word in
    record {
      first = e.event;
      others = [];
      size = refl;
      told = h.cut ∙ ap₂ (λ f r. f ++ 10 ∷ r) e.told h.goes_on;
    }
events_in last (suc n) text h =
    let e = an_event last h.front h.is_word in
    let more = events_in last n h.rest h.goes_on in
    record {
      first = e.event;
      others = more.first ∷ more.others;
      size = ap suc more.size;
      told = h.cut ∙ ap₂ (λ f r. f ++ 44 ∷ r) e.told more.told
          ∙ ap (λ t. event_text e.event ++ 44 ∷ t)
          (sym (append_assoc (event_text more.first) (further_text more.others) (10 ∷ [])));
    }

-- a line is that of so many events
record OneLine (count : ℕ) (line : List ℕ) : Type 0 where
  events : List Event
  size : length events ≡ count
  told : line ≡ row_text events

line_in : (last n : ℕ) (line : List ℕ)
    → Spelled (Fixed name.Empty ∷ Fixed name.Sched ∷ replicate (suc n) (word.Event last)) line
    → OneLine (suc n) line
unfolding Spelled
line_in last n line h =
    let g = h.goes_on in
    let es = events_in last n g.rest g.goes_on in
    record {
      events = es.first ∷ es.others;
      size = ap suc es.size;
      told = h.cut ∙ ap₂ (λ f r. f ++ 32 ∷ r) h.is_word
          (g.cut ∙ ap₂ (λ f r. f ++ 32 ∷ r) g.is_word es.told)
          ∙ ap (λ t. codes " SCHED " ++ t)
          (sym (append_assoc (event_text es.first) (further_text es.others) (10 ∷ [])));
    }

full_line : (last : ℕ) (line : List ℕ) → IsRow last (row.Events 16) line → OneLine 16 line
unfolding IsRow
full_line last line h = line_in last 15 line h

-- ---- lines behind lines

-- the first line, and the lines of the events behind it
first_row : (k : ℕ) (es : List Event) → rows_text es (suc k) ≡ row_text (take 16 es) ++ rows_text (drop 16 es) k
first_row zero es = sym (append-nil (row_text (take 16 es)))
first_row (suc k) es =
    let behind = ap (λ (l : List Event). row_text (take 16 l)) (sym (drop_more k es)) in
    ap₂ (λ (a b : List ℕ). a ++ b) (first_row k es) behind
    ∙ append_assoc (row_text (take 16 es)) (rows_text (drop 16 es) k)
    (row_text (take 16 (drop (16 * k) (drop 16 es))))

-- lines are those of so many events, and the end
pub record AreEvents (count : ℕ) (lines : List (List ℕ)) : Type 0 where
  pub events : List Event
  pub size : length events ≡ count
  pub told : joined lines ≡ schedule_text events ++ codes "END\n"

-- a full line in front
line_before : (count : ℕ) (line : List ℕ) (lines : List (List ℕ)) → OneLine 16 line → AreEvents count lines
    → AreEvents (16 + count) (line ∷ lines)
line_before count line lines one more =
    let all = one.events ++ more.events in
    let front : take 16 all ≡ one.events = ap (λ n. take n all) (sym one.size) ∙ take-append_seam one.events more.events in
    let behind : drop 16 all ≡ more.events = ap (λ n. drop n all) (sym one.size) ∙ drop-append_seam one.events more.events in
    let size : length all ≡ 16 + count =
    length-append one.events more.events ∙ ap₂ (λ a b. a + b) one.size more.size in
    let rows : (length all + 15) / 16 ≡ suc ((length more.events + 15) / 16) =
    let s = length-append one.events more.events in let o = one.size in omega (arith, s, o) in
    record {
      events = all;
      size = size;
      told =
          ap₂ (λ (a b : List ℕ). a ++ b) one.told more.told
          ∙ sym (append_assoc (row_text one.events) (schedule_text more.events) (codes "END\n"))
          ∙ ap (λ t. t ++ codes "END\n")
          (sym (ap (rows_text all) rows ∙ first_row ((length more.events + 15) / 16) all
          ∙ ap₂ (λ (a b : List Event). row_text a ++ rows_text b ((length more.events + 15) / 16)) front behind));
    }

end_line : (last : ℕ) (line : List ℕ) → IsRow last row.End line → line ≡ codes "END\n"
unfolding IsRow Spelled
end_line last line h = h.cut ∙ ap₂ (λ f r. f ++ 10 ∷ r) h.is_word h.goes_on

-- no more lines than rows
only_end : (last : ℕ) (lines : List (List ℕ)) → length lines ≡ 1 → Fit last (row.End ∷ []) lines
    → AreEvents 0 lines
only_end last [] size fit = absurd fit
only_end last (l ∷ (m ∷ ls)) size fit = absurd (omega (arith, size))
only_end last (l ∷ []) size fit = record {
  events = [];
  size = refl;
  told = append-nil l ∙ end_line last l fit.0;
}

few_line : (last n : ℕ) (line : List ℕ) → suc n < 16 → IsRow last (row.Events (suc n)) line → OneLine (suc n) line
unfolding IsRow
few_line last n line few h =
    let m : min (suc n) 16 ≡ suc n = omega (arith, few) in
    line_in last n line (subst (λ k. Spelled (events_words last k) line) m h)

-- a last line of fewer events
last_line : (last n : ℕ) (lines : List (List ℕ)) → suc n < 16 → length lines ≡ 2
    → Fit last (row.Events (suc n) ∷ row.End ∷ []) lines → AreEvents (suc n) lines
last_line last n [] few size fit = absurd fit
last_line last n (l ∷ []) few size fit = absurd (omega (arith, size))
last_line last n (l ∷ (m ∷ (k ∷ ls))) few size fit = absurd (omega (arith, size))
last_line last n (l ∷ (m ∷ [])) few size fit =
    let one = few_line last n l few fit.0 in
    let rows : (length one.events + 15) / 16 ≡ 1 = let o = one.size in omega (arith, o, few) in
    let whole : take 16 one.events ≡ one.events =
    take_all 16 one.events (let o = one.size in omega (arith, o, few)) in
    record {
      events = one.events;
      size = one.size;
      told =
          ap₂ (λ (a b : List ℕ). a ++ b) one.told (append-nil m ∙ end_line last m fit.1.0)
          ∙ ap (λ t. t ++ codes "END\n")
          (sym (ap (rows_text one.events) rows ∙ ap row_text whole));
    }

-- ---- all lines behind the count of events

abbrev rest_rows : ℕ → List Row
rest_rows r = replicate (if r == 0 then 0 else 1) (row.Events r) ++ row.End ∷ []

not_zero : (n : ℕ) → (suc n == 0) ≡ false
not_zero n = grind arith

rest_is : (n : ℕ) → rest_rows (suc n) ≡ row.Events (suc n) ∷ (row.End ∷ [])
rest_is n =
    ap (λ (b : Bool). replicate (if b then 0 else 1) (row.Events (suc n)) ++ row.End ∷ []) (not_zero n)

both_rows : (n : ℕ) → length (rest_rows (suc n)) ≡ 2
both_rows n = ap length (rest_is n)

rest_lines : (last r : ℕ) (lines : List (List ℕ)) → r < 16 → length lines ≡ length (rest_rows r)
    → Fit last (rest_rows r) lines → AreEvents r lines
rest_lines last zero lines few size fit = only_end last lines size fit
rest_lines last (suc n) lines few size fit =
    last_line last n lines few (size ∙ both_rows n) (subst (λ rows. Fit last rows lines) (rest_is n) fit)

pub events_lines : (last k r : ℕ) (lines : List (List ℕ)) → r < 16
    → length lines ≡ length (replicate k (row.Events 16) ++ rest_rows r)
    → Fit last (replicate k (row.Events 16) ++ rest_rows r) lines → AreEvents (16 * k + r) lines
events_lines last zero r lines few size fit =
    subst (λ n. AreEvents n lines) (omega arith) (rest_lines last r lines few size fit)
events_lines last (suc k) r [] few size fit = absurd fit
events_lines last (suc k) r (l ∷ lines) few size fit =
    subst (λ n. AreEvents n (l ∷ lines)) (omega arith)
    (line_before (16 * k + r) l lines (full_line last l fit.0)
    (events_lines last k r lines few (omega (arith, size)) fit.1))
