-- The report that is expected, of what the code finds.
use Rattle.std.proofs.Common.{◌≡◌, ◌∙◌, ap, sym, refl, subst, ℕ, ◌+◌, ◌≤◌, arith, List, length, take, drop}
use Rattle.std.proofs.Common.{◌++◌, map, Option, Some, None, inl, inr}
use Rattle.std.specs.Prelude.{slice_get}
use Rattle.std.specs.Option.{option_map}
use Rattle.std.proofs.lemmas.Option.{slice_get-map}
use Rattle.std.proofs.lemmas.List.{length-map, length-take-le, length-drop}
use Rattle.tx_journal.specs.Content.{Content}
use Rattle.tx_journal.specs.Lines.{entry_text}
use Rattle.tx_journal.specs.declared.entries.Entry.{Entry}
use Rattle.tx_serial.specs.Flat.{FlatState, bytes_of}
use Rattle.report_form.specs.Sheet.{HasForm, IsSheet, history_at}
use Rattle.report_form.specs.declared.sheet.Sheet.{Sheet}
use Rattle.report_text.specs.Shown.{ShownCpu}
use Rattle.report_text.specs.Report.{state_part, report_text}
use Rattle.report_text.specs.declared.processors.Attempt.{Attempt}
use Rattle.tx_replay.specs.Replay.{IsReplay}
use Rattle.tx_check.specs.declared.writing.Seen.{Seen}
use Rattle.tx_check.specs.Seen.{shown_seen}
use Rattle.tx_check.specs.Lines.{lines_of}
use Rattle.tx_check.specs.Told.{IsLive, IsTold}
use Rattle.tx_check.specs.Sound.{IsSound, IsTaken, Believes, cpu_place, joined}
use Rattle.report_form.specs.Sheet.{IsFirstFault}
use Rattle.tx_check.specs.declared.checking.CheckFault.{CheckFault}
use Rattle.tx_check.specs.declared.checking.CheckFault.TheVariants.{Memory, Form, Entry as AtEntry, State}
use Rattle.tx_check.specs.Answers.{IsDueText, IsAccepted, IsRefused, HasNoForm, HasNoHistory, HasMisfit}
use Rattle.tx_check.proofs.FormLines.{HasEvents, events_read, run_told, history_size}
use Rattle.tx_check.proofs.LineLemmas.{same_lines}

-- ---- one CPU among those that are told

-- it is one that is seen
record IsSeen (cpus : List Seen) (i : ℕ) (c : ShownCpu) : Type 0 where
  seen : Seen
  there : slice_get cpus i ≡ Some seen
  shown : shown_seen seen ≡ c

seen_at : (cpus : List Seen) (i : ℕ) (c : ShownCpu) → slice_get (map shown_seen cpus) i ≡ Some c → IsSeen cpus i c
seen_at cpus i c at = by (slice_get cpus i) refl
  where
    by : (o : Option Seen) → slice_get cpus i ≡ o → IsSeen cpus i c
    by None is =
        let none : slice_get (map shown_seen cpus) i ≡ None =
        slice_get-map shown_seen cpus i ∙ ap (option_map shown_seen) is in
        absurd cc
    by (Some s) is =
        let some : slice_get (map shown_seen cpus) i ≡ Some (shown_seen s) =
        slice_get-map shown_seen cpus i ∙ ap (option_map shown_seen) is in
        record { seen = s; there = is; shown = cc }

-- what holds of each that is seen holds of each that is told
all_told : (P : ℕ → ShownCpu → Type 0) (cpus : List Seen)
    → ((i : ℕ) (s : Seen) → slice_get cpus i ≡ Some s → P i (shown_seen s))
    → (i : ℕ) (c : ShownCpu) → slice_get (map shown_seen cpus) i ≡ Some c → P i c
all_told P cpus each i c at =
    let s = seen_at cpus i c at in subst (P i) s.shown (each i s.seen s.there)

-- ---- the text

entries_size : (image : Content) (lines : List (List ℕ)) (entries events : ℕ) (history : List Entry)
    → HasForm image lines entries events → map entry_text history ≡ take entries (drop (history_at image + 1) lines)
    → length history ≡ entries
entries_size image lines entries events history form texts =
    let whole = form.whole in
    let size = history_size image entries in
    let behind = length-drop (history_at image + 1) lines in
    let many : entries ≤ length (drop (history_at image + 1) lines) = omega (arith, whole, size, behind) in
    sym (length-map history entry_text) ∙ ap length texts
    ∙ length-take-le entries (drop (history_at image + 1) lines) many

pub due_text : (image : Content) (lines : List (List ℕ)) (s : Sheet) (history : List Entry) (after : FlatState)
    (cpus : List Seen) (text : List ℕ) → IsSheet image lines s
    → IsReplay image (take s.entries (drop (history_at image + 1) lines)) history after
    → length cpus ≡ length image.cpus
    → ((i : ℕ) (c : Seen) → slice_get cpus i ≡ Some c → IsTold after history i (shown_seen c))
    → ((i : ℕ) (c : Seen) → slice_get cpus i ≡ Some c → IsTaken lines (cpu_place i) after i (shown_seen c))
    → s.history.line ≡ s.count.line + 1
    → text ≡ state_part (map shown_seen cpus) image.shows (bytes_of after.storage)
    ++ joined (drop s.count.line lines)
    → IsDueText image lines s.entries text
unfolding report_text
due_text image lines s history after cpus text sheet replayed many told taken next is =
    let es : HasEvents image lines s.entries = events_read image lines s.entries sheet.events sheet.form in
    let size = entries_size image lines s.entries sheet.events history sheet.form replayed.texts in
    let begins : s.count.line ≡ history_at image = let b = sheet.begins in omega (arith, b, next) in
    let run = run_told image lines s.entries sheet.events history es.events sheet.form replayed.texts size es.told in
    record {
      shown = record {
        cpus = map shown_seen cpus;
        shows = image.shows;
        storage = bytes_of after.storage;
        history = history;
        events = es.events;
      };
      after = after;
      expected = record {
        history = replayed.texts;
        left = record {
          replayed = replayed.replayed;
          sound = replayed.sound;
          count = length-map cpus shown_seen ∙ many;
          cpus = all_told (λ i c. IsTold after history i c) cpus told;
          shows = refl;
          storage = refl;
        };
        taken = all_told (λ i c. IsTaken lines (cpu_place i) after i c) cpus taken;
        events = es.told;
      };
      told =
          is
          ∙ ap (λ rest. state_part (map shown_seen cpus) image.shows (bytes_of after.storage) ++ rest)
          (ap (λ n. joined (drop n lines)) begins ∙ run);
    }

-- ---- the report is the expected one

pub live_where : (f : FlatState) (i : ℕ) (claim o : Option Attempt) (a : Attempt) → Believes f i claim o → o ≡ Some a
    → IsLive f i a
live_where f i None o a none is = let no : None ≡ Some a = sym none ∙ is in absurd cc
live_where f i (Some b) o a (inl h) is =
    let same : Some b ≡ Some a = sym h.0 ∙ is in subst (IsLive f i) (let e : b ≡ a = cc in e) h.1
live_where f i (Some b) o a (inr h) is = let no : None ≡ Some a = sym h.0 ∙ is in absurd cc

pub sound_text : (image : Content) (report text : List ℕ) (entries events : ℕ)
    → HasForm image (lines_of report) entries events → IsDueText image (lines_of report) entries text
    → lines_of report ≡ lines_of text → IsSound image report entries
sound_text image report text entries events form due same = record {
  events = events;
  form = form;
  shown = due.shown;
  after = due.after;
  left = due.expected.left;
  live = λ i c a at is.
      let t = due.expected.taken i c at in live_where due.after i t.claim c.attempt a t.believed is;
  text = same_lines report text same ∙ due.told;
}

pub accepted_text : (image : Content) (report text : List ℕ) (entries events : ℕ)
    → HasForm image (lines_of report) entries events → IsDueText image (lines_of report) entries text
    → lines_of report ≡ lines_of text → IsAccepted image report entries
accepted_text image report text entries events form due same = record {
  events = events;
  form = form;
  due = subst (IsDueText image (lines_of report) entries) (sym (same_lines report text same)) due;
}

-- ---- step by step

pub no_form : (image : Content) (report : List ℕ) (lines : List (List ℕ)) (fault : CheckFault) → lines ≡ lines_of report
    → HasNoForm image lines fault → IsRefused image report fault
no_form image report lines Memory is h = tt
no_form image report lines (Form number) is h = subst (λ ls. IsFirstFault image ls number) is h
no_form image report lines (AtEntry number) is h = absurd h
no_form image report lines (State number) is h = absurd h

pub no_history : (image : Content) (report : List ℕ) (lines : List (List ℕ)) (fault : CheckFault)
    → lines ≡ lines_of report → HasNoHistory image lines fault → IsRefused image report fault
no_history image report lines Memory is h = tt
no_history image report lines (Form number) is h = absurd h
no_history image report lines (AtEntry number) is h = subst (λ ls. HasMisfit image ls number) is h
no_history image report lines (State number) is h = absurd h

pub accepted : (image : Content) (report text : List ℕ) (lines due : List (List ℕ)) (s : Sheet)
    → lines ≡ lines_of report → due ≡ lines_of text → IsSheet image lines s → IsDueText image lines s.entries text
    → lines ≡ due → IsSound image report s.entries × IsAccepted image report s.entries
accepted image report text lines due s are others sheet expected same =
    let form = subst (λ ls. HasForm image ls s.entries sheet.events) are sheet.form in
    let e = subst (λ ls. IsDueText image ls s.entries text) are expected in
    let equal = sym are ∙ same ∙ others in (
      sound_text image report text s.entries sheet.events form e equal,
      accepted_text image report text s.entries sheet.events form e equal,
    )
