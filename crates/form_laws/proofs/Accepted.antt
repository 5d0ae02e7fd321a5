-- A sound report is accepted, and what is accepted is sound.
use Rattle.std.proofs.Common.{◌≡◌, ◌∙◌, ap, ap₂, sym, refl, subst, ℕ, ◌+◌, ◌<◌, ◌^◌, arith}
use Rattle.std.proofs.Common.{List, [], ◌∷◌, ◌++◌, length, take, drop, get_or, Option, Some, None, inl, inr}
use Rattle.std.specs.Prelude.{codes, slice_get}
use Rattle.std.specs.Fmt.{decimal}
use Rattle.std.proofs.lemmas.List.{append_cancel_right}
use Rattle.std.proofs.lemmas.Option.{slice_get_within, same_Some}
use Rattle.tx_journal.specs.Content.{Content}
use Rattle.tx_serial.specs.Flat.{FlatState}
use Rattle.report_form.specs.declared.words.Name.TheVariants as name
use Rattle.report_form.specs.declared.words.Word.TheVariants.{Fixed, AtMost}
use Rattle.report_form.specs.declared.rows.Row.TheVariants as row
use Rattle.report_form.specs.Spelling.{Spelled}
use Rattle.report_form.specs.Rows.{IsRow, most, most_completed}
use Rattle.report_form.specs.Sheet.{HasForm, count_line, history_at, schedule_at, last_of}
use Rattle.report_form.proofs.Counted.{name_lacks}
use Rattle.report_text.specs.Digits.{labelled, number_line}
use Rattle.report_text.specs.Processor.{attempt_line, live_line, counts_line}
use Rattle.report_text.specs.Shown.{Shown, ShownCpu}
use Rattle.report_text.specs.declared.processors.Attempt.{Attempt}
use Rattle.report_text.specs.declared.processors.Counts.{Counts}
use Rattle.tx_check.specs.Lines.{lines_of}
use Rattle.tx_check.specs.Told.{IsLive, IsLeft, AreLive}
use Rattle.tx_check.specs.Sound.{IsSound, Believes, AreSmall, IsSmall, IsTaken, IsExpected, cpu_place}
use Rattle.tx_check.specs.Answers.{IsAccepted}
use Rattle.tx_check.proofs.FormLines.{HasRow, cpu_line, history_size}
use Rattle.form_laws.proofs.Cutting.{decimal_lacks}
use Rattle.form_laws.proofs.Lists.{head_list, report_list, report_lines}
use Rattle.form_laws.proofs.Numbers.{decimal_tells, word_first, word_only, number_first, within}
use Rattle.form_laws.proofs.Places.{head_length, attempt_at, counts_at, entries_counted, entries_at}
use Rattle.form_laws.proofs.Places.{events_at}
use Rattle.tx_check.proofs.Due.{live_where}

-- ---- numbers in lines of the form

-- a line that claims an attempt says more than that there is none
claims : (a : Attempt) → Spelled (Fixed name.Transaction ∷ Fixed name.Nothing
    ∷ []) (attempt_line (Some a)) → ⊥
unfolding Spelled attempt_line live_line labelled
claims a h =
    let none : attempt_line (Some a) ≡ codes "TX NONE\n" =
    h.cut ∙ ap₂ (λ f r. f ++ 32 ∷ r) h.is_word
    (h.goes_on.cut ∙ ap₂ (λ f r. f ++ 10 ∷ r) h.goes_on.is_word h.goes_on.goes_on) in
    let letter : 68 ≡ 78 = ap (λ (t : List ℕ). get_or t 3 0) none in
    omega (arith, letter)

small_attempt : (last : ℕ) (o : Option Attempt) → IsRow last row.Attempt (attempt_line o) → IsSmall o
unfolding IsRow attempt_line live_line labelled
small_attempt last None h = tt
small_attempt last (Some a) (inl none) = absurd (claims a none)
small_attempt last (Some a) (inr h) =
    let tx = word_first (Fixed name.Transaction) (Fixed name.Depth)
    (AtMost most ∷ Fixed name.Completed ∷ AtMost most_completed ∷ []) (codes "TX") _ refl
    (name_lacks name.Transaction) h in
    let depth = word_first (Fixed name.Depth) (AtMost most) (Fixed name.Completed ∷ AtMost most_completed
    ∷ [])
    (codes "DEPTH") _ refl (name_lacks name.Depth) tx.goes_on in
    let deep = number_first most (Fixed name.Completed) (AtMost most_completed
    ∷ []) a.depth _ depth.goes_on in
    let completed = word_first (Fixed name.Completed) (AtMost most_completed) [] (codes "COMPLETED")
    (decimal a.completed ++ 10 ∷ []) refl (name_lacks name.Completed) deep.goes_on in
    let low = within most a.depth deep.is_word in
    let few = within most_completed a.completed
    (word_only (AtMost most_completed) (decimal a.completed) (decimal_lacks 10 a.completed (omega arith))
    completed.goes_on) in
    (omega (arith, low), omega (arith, few))

small_counts : (last : ℕ) (c : Counts) → IsRow last row.Counts (counts_line c) → AreSmall c
unfolding IsRow counts_line labelled
small_counts last c h =
    let others = Fixed name.Commits ∷ AtMost most ∷ Fixed name.Aborts ∷ AtMost most ∷ [] in
    let counts = word_first (Fixed name.Counts) (Fixed name.Turns)
    (AtMost most ∷ Fixed name.Asked ∷ AtMost most ∷ Fixed name.Rejected ∷ AtMost most
    ∷ others) (codes "COUNTS") _
    refl (name_lacks name.Counts) h in
    let turns = word_first (Fixed name.Turns) (AtMost most)
    (Fixed name.Asked ∷ AtMost most ∷ Fixed name.Rejected ∷ AtMost most ∷ others) (codes "TURNS") _ refl
    (name_lacks name.Turns) counts.goes_on in
    let one = number_first most (Fixed name.Asked) (AtMost most ∷ Fixed name.Rejected ∷ AtMost most
    ∷ others) c.turns _
    turns.goes_on in
    let asked = word_first (Fixed name.Asked) (AtMost most) (Fixed name.Rejected ∷ AtMost most ∷ others)
    (codes "ASKED") _ refl (name_lacks name.Asked) one.goes_on in
    let two = number_first most (Fixed name.Rejected) (AtMost most ∷ others) c.asked _ asked.goes_on in
    let rejected = word_first (Fixed name.Rejected) (AtMost most) others (codes "REJECTED") _ refl
    (name_lacks name.Rejected) two.goes_on in
    let three = number_first most (Fixed name.Commits) (AtMost most ∷ Fixed name.Aborts ∷ AtMost most
    ∷ []) c.rejected
    _ rejected.goes_on in
    let a = within most c.turns one.is_word in
    let b = within most c.asked two.is_word in
    let d = within most c.rejected three.is_word in
    record { turns = omega (arith, a); asked = omega (arith, b); rejected = omega (arith, d) }

counted : (m n : ℕ) → n < 2 ^ 64 → number_line (codes "HISTORY ") m ≡ count_line name.History n → m ≡ n
unfolding number_line labelled
counted m n small is =
    decimal_tells m n small (append_cancel_right (decimal m) (decimal n) (10 ∷ []) (ap (drop 8) is))

-- ---- what is expected

believes : (f : FlatState) (i : ℕ) (o : Option Attempt) → ((a : Attempt) → o ≡ Some a → IsLive f i a)
    → Believes f i o o
believes f i None live = refl
believes f i (Some a) live = inl (refl, live a refl)

module _ (image : Content) (entries events : ℕ) (s : Shown) (after : FlatState)
    (form : HasForm image (report_list s) entries events) (left : IsLeft image s after)
    (live : AreLive after s) where
  headed : length (head_list s) ≡ history_at image
  headed = head_length image s left.count left.shows

  many : length s.history ≡ entries
  many =
      let count = form.history.head.count in
      counted (length s.history) entries count.fits (sym (entries_counted s (history_at image) headed)
      ∙ count.is)

  taken : (i : ℕ) (c : ShownCpu) → slice_get s.cpus i ≡ Some c
      → IsTaken (report_list s) (cpu_place i) after i c
  taken i c at =
      let there = slice_get_within s.cpus i c at in
      let count = left.count in
      let below : i < length image.cpus = omega (arith, there, count) in
      let a : HasRow (last_of image) row.Attempt (report_list s) (cpu_place i + 8) =
      cpu_line image (report_list s) entries events i 8 row.Attempt form below refl in
      let b : HasRow (last_of image) row.Counts (report_list s) (cpu_place i + 10) =
      cpu_line image (report_list s) entries events i 10 row.Counts form below refl in
      let told : a.line ≡ attempt_line c.attempt = same_Some _ _ (sym a.there ∙ attempt_at s i c at) in
      let tally : b.line ≡ counts_line c.counts = same_Some _ _ (sym b.there ∙ counts_at s i c at) in
      record {
        claim = c.attempt;
        counts = c.counts;
        printed = record {
          claimed = attempt_at s i c at;
          counted = counts_at s i c at;
          small = small_attempt (last_of image) c.attempt (subst (IsRow
              (last_of image) row.Attempt) told a.row);
          small_counts = small_counts (last_of image) c.counts (subst (IsRow
              (last_of image) row.Counts) tally b.row);
        };
        believed = believes after i c.attempt (λ a is. live i c a at is);
        turns = refl;
        asked = refl;
        rejected = refl;
      }

  expected : IsExpected image (report_list s) entries s after
  expected = record {
    history =
        sym (entries_at s (history_at image) headed)
        ∙ ap (λ n. take n (drop (history_at image + 1) (report_list s))) many;
    left = left;
    taken = taken;
    events =
        events_at s (history_at image) (schedule_at image entries) headed
        (history_size image entries ∙ ap (λ n. history_at image + 1 + n) (sym many));
  }

pub accepted : (image : Content) (report : List ℕ) (entries : ℕ) → IsSound image report entries
    → IsAccepted image report entries
accepted image report entries h =
    let s = h.shown in
    let lines : lines_of report ≡ report_list s = ap lines_of h.text ∙ report_lines s in
    let form = subst (λ ls. HasForm image ls entries h.events) lines h.form in
    record {
      events = h.events;
      form = h.form;
      due = record {
        shown = s;
        after = h.after;
        expected =
            subst (λ ls. IsExpected image ls entries s h.after) (sym lines)
            (expected image entries h.events s h.after form h.left h.live);
        told = h.text;
      };
    }

-- ---- and back

pub sound : (image : Content) (report : List ℕ) (entries : ℕ) → IsAccepted image report entries
    → IsSound image report entries
sound image report entries h = record {
  events = h.events;
  form = h.form;
  shown = h.due.shown;
  after = h.due.after;
  left = h.due.expected.left;
  live = λ i c a at is.
      let t = h.due.expected.taken i c at in live_where h.due.after i t.claim c.attempt a t.believed is;
  text = h.due.told;
}
