-- The parts of a whole report, one behind the other.
use Rattle.std.proofs.Common.{◌≡◌, ℕ, ◌+◌, ◌<◌, ◌≤◌, List, length, refl, ap, subst, ◌∙◌, arith}
use Rattle.tx_journal.specs.Content.{Content}
use Rattle.report_form.specs.declared.words.Name.{Name}
use Rattle.report_form.specs.declared.words.Name.TheVariants as name
use Rattle.report_form.specs.declared.lines.Part.{Part}
use Rattle.report_form.specs.Lines.{rows_of, Passes, Stops}
use Rattle.report_form.specs.Sheet.{head_parts, history_parts, schedule_parts, Counts, last_of, history_at}
use Rattle.report_form.specs.Sheet.{schedule_at, HasHead, HasHistory, HasForm, FaultyAt}
use Rattle.report_form.specs.Sheet.{LacksCount, IsFirstFault, in_head, no_history, in_history, no_schedule}
use Rattle.report_form.specs.Sheet.{in_schedule, too_many}

abbrev Lines : Type 0
Lines = List (List ℕ)

-- ---- parts from a place on

passes_as : (image : Content) (lines : Lines) (parts due : List Part) (last at from place : ℕ) → parts ≡ due
    → last ≡ last_of image → from ≡ at → Passes last (rows_of parts) lines from place
    → Passes (last_of image) (rows_of due) lines at place
passes_as image lines parts due last at from place are number starts h =
    subst (λ a. Passes (last_of image) (rows_of due) lines a place) starts
    (subst (λ k. Passes k (rows_of due) lines from place) number
    (subst (λ ps. Passes last (rows_of ps) lines from place) are h))

stops_as : (image : Content) (lines : Lines) (parts due : List Part) (last at from place : ℕ) → parts ≡ due
    → last ≡ last_of image → from ≡ at → Stops last (rows_of parts) lines from place
    → FaultyAt image lines due at (place + 1)
stops_as image lines parts due last at from place are number starts h =
    let s : Stops (last_of image) (rows_of due) lines at place =
    subst (λ a. Stops (last_of image) (rows_of due) lines a place) starts
    (subst (λ k. Stops k (rows_of due) lines from place) number
    (subst (λ ps. Stops last (rows_of ps) lines from place) are h)) in
    record { before = s.before; fault = s.fault; counted = s.counted }

lacks_as : (n : Name) (lines : Lines) (place at : ℕ) → place ≡ at
    → ((count : ℕ) → ¬ Counts n lines place count) → LacksCount n lines at (place + 1)
lacks_as n lines place at is none = record {
  none = subst (λ k. (count : ℕ) → ¬ Counts n lines k count) is none;
  counted = ap (λ k. k + 1) is;
}

-- ---- the state

pub head_fault : (image : Content) (lines : Lines) (parts : List Part) (last place : ℕ)
    → parts ≡ head_parts image → last ≡ last_of image → Stops last (rows_of parts) lines 0 place
    → IsFirstFault image lines (place + 1)
head_fault image lines parts last place are number h =
    in_head (stops_as image lines parts (head_parts image) last 0 0 place are number refl h)

head_place : (image : Content) (lines : Lines) (place : ℕ)
    → Passes (last_of image) (rows_of (head_parts image)) lines 0 place → place ≡ history_at image
head_place image lines place h = let e = h.place in omega (arith, e)

pub history_missing : (image : Content) (lines : Lines) (parts : List Part) (last place : ℕ)
    → parts ≡ head_parts image → last ≡ last_of image → Passes last (rows_of parts) lines 0 place
    → ((n : ℕ) → ¬ Counts name.History lines place n) → IsFirstFault image lines (place + 1)
history_missing image lines parts last place are number h none =
    let p = passes_as image lines parts (head_parts image) last 0 0 place are number refl h in
    no_history p.fit
    (lacks_as name.History lines place (history_at image) (head_place image lines place p) none)

pub head_there : (image : Content) (lines : Lines) (parts : List Part) (last place entries : ℕ)
    → parts ≡ head_parts image → last ≡ last_of image → Passes last (rows_of parts) lines 0 place
    → Counts name.History lines place entries → HasHead image lines entries
head_there image lines parts last place entries are number h count =
    let p = passes_as image lines parts (head_parts image) last 0 0 place are number refl h in
    record {
      fit = p.fit;
      count =
          subst (λ k. Counts name.History lines k entries) (head_place image lines place p) count;
    }

pub head_end : (image : Content) (lines : Lines) (parts : List Part) (last place : ℕ)
    → parts ≡ head_parts image → last ≡ last_of image → Passes last (rows_of parts) lines 0 place
    → place + 1 ≡ history_at image + 1
head_end image lines parts last place are number h =
    ap (λ k. k + 1)
    (head_place image lines place (passes_as image lines parts (head_parts image) last 0 0 place are number refl h))

-- ---- the history

pub history_fault : (image : Content) (lines : Lines) (entries last at place : ℕ) → HasHead image lines entries
    → at ≡ history_at image + 1 → last ≡ last_of image
    → Stops last (rows_of (history_parts entries)) lines at place → IsFirstFault image lines (place + 1)
history_fault image lines entries last at place head begins number h =
    in_history entries head
    (stops_as image lines (history_parts entries) (history_parts entries) last (history_at image + 1) at place
    refl number begins h)

history_place : (image : Content) (lines : Lines) (entries place : ℕ)
    → Passes (last_of image) (rows_of (history_parts entries)) lines (history_at image + 1) place
    → place ≡ schedule_at image entries
history_place image lines entries place h = h.place

pub schedule_missing : (image : Content) (lines : Lines) (entries last at place : ℕ)
    → HasHead image lines entries → at ≡ history_at image + 1 → last ≡ last_of image
    → Passes last (rows_of (history_parts entries)) lines at place
    → ((n : ℕ) → ¬ Counts name.Schedule lines place n) → IsFirstFault image lines (place + 1)
schedule_missing image lines entries last at place head begins number h none =
    let p =
    passes_as image lines (history_parts entries) (history_parts entries) last (history_at image + 1) at place
    refl number begins h in
    no_schedule entries head p.fit (lacks_as name.Schedule lines place (schedule_at image entries) p.place none)

pub history_there : (image : Content) (lines : Lines) (entries last at place events : ℕ)
    → HasHead image lines entries → at ≡ history_at image + 1 → last ≡ last_of image
    → Passes last (rows_of (history_parts entries)) lines at place
    → Counts name.Schedule lines place events → HasHistory image lines entries events
history_there image lines entries last at place events head begins number h count =
    let p =
    passes_as image lines (history_parts entries) (history_parts entries) last (history_at image + 1) at place
    refl number begins h in
    record {
      head = head;
      fit = p.fit;
      count = subst (λ k. Counts name.Schedule lines k events) p.place count;
    }

pub history_end : (image : Content) (lines : Lines) (entries last at place : ℕ) → at ≡ history_at image + 1
    → last ≡ last_of image → Passes last (rows_of (history_parts entries)) lines at place
    → place + 1 ≡ schedule_at image entries + 1
history_end image lines entries last at place begins number h =
    let p =
    passes_as image lines (history_parts entries) (history_parts entries) last (history_at image + 1) at place
    refl number begins h in
    ap (λ k. k + 1) p.place

-- ---- the schedule

pub schedule_fault : (image : Content) (lines : Lines) (parts : List Part) (entries events last at place : ℕ)
    → HasHistory image lines entries events → at ≡ schedule_at image entries + 1 → last ≡ last_of image
    → parts ≡ schedule_parts events → Stops last (rows_of parts) lines at place
    → IsFirstFault image lines (place + 1)
schedule_fault image lines parts entries events last at place history begins number are h =
    in_schedule entries events history
    (stops_as image lines parts (schedule_parts events) last (schedule_at image entries + 1) at place are number
    begins h)

pub line_too_many : (image : Content) (lines : Lines) (parts : List Part)
    (entries events last at place : ℕ) → HasHistory image lines entries events
    → at ≡ schedule_at image entries + 1 → last ≡ last_of image → parts ≡ schedule_parts events
    → Passes last (rows_of parts) lines at place → place < length lines → IsFirstFault image lines (place + 1)
line_too_many image lines parts entries events last at place history begins number are h more =
    let p =
    passes_as image lines parts (schedule_parts events) last (schedule_at image entries + 1) at place are number
    begins h in
    too_many entries events history p.fit (subst (λ k. k < length lines) p.place more)
    (ap (λ k. k + 1) p.place)

pub whole_form : (image : Content) (lines : Lines) (parts : List Part) (entries events last at place : ℕ)
    → HasHistory image lines entries events → at ≡ schedule_at image entries + 1 → last ≡ last_of image
    → parts ≡ schedule_parts events → Passes last (rows_of parts) lines at place → length lines ≤ place
    → HasForm image lines entries events
whole_form image lines parts entries events last at place history begins number are h no_more =
    let p =
    passes_as image lines parts (schedule_parts events) last (schedule_at image entries + 1) at place are number
    begins h in
    let within = p.within in
    let there = p.place in
    let end : length lines ≡ place = omega (arith, within, no_more) in
    record { history = history; fit = p.fit; whole = end ∙ there }
