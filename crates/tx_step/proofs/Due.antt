-- A byte is others only in a line that may have changed, and the lines that are kept stay those stored into.
use Rattle.std.proofs.Common.{◌≡◌, ℕ, ◌/◌, ◌<◌, Bool, true, false, List, [], Some, None, length, get_or}
use Rattle.std.proofs.Common.{arith, sym, ap, refl, subst, ◌∙◌, ◌⊎◌, inl, inr}
use Rattle.std.specs.Prelude.{◌&&◌, ◌||◌, ◌==◌, not, nat_lt, slice_get, if◌then◌else◌}
use Rattle.std.specs.List.{list_any}
use Rattle.std.proofs.lemmas.Bool.{cases_Bool, and_from, and_parts, and_cases, or_parts, not-false, eqb-true}
use Rattle.std.proofs.lemmas.Bool.{eq-eqb, both_ways, false_from_ne_true, true_from_ne_false}
use Rattle.std.proofs.lemmas.List.Folds.{Any-from_list_any}
use Rattle.std.proofs.lemmas.Option.{slice_get_cases}
use borrow.Enum.Arm.{by_way}
use Rattle.tx_footprint.specs.Places.{stores}
use Rattle.tx_journal.specs.Image.{cpu_of_event}
use Rattle.tx_journal.specs.declared.events.Event.{Event}
use Rattle.tx_progress.proofs.Parts.{not_live}
use Rattle.tx_journal.specs.Content.{Content}
use Rattle.tx_serial.specs.Run.{run}
use Rattle.tx_meaning.specs.Limits.{Setting, RunLimits}
use Rattle.tx_meaning.specs.Meaning.{IsSetting, meaning, meaning_from}
use Rattle.tx_meaning.specs.Shown.{levels_at}
use Rattle.tx_meaning.specs.State.{State, beginning, cpus_of, flat_of, footprint_of, is_live}
use Rattle.tx_meaning.specs.Turn.{happen}
use Rattle.tx_meaning.specs.Views.{AreKnown}
use Rattle.tx_machine.specs.Machine.{Seen, setting_of, state_of, event_of, opened}
use Rattle.tx_machine.specs.Machine.{after as after_event}
use Rattle.tx_machine.specs.Wanted.{wanted}
use Rattle.step_changes.specs.Seen.{CpuSeen, Sight, cpus_seen, word_at}
use Rattle.step_changes.specs.Stored.{has, completed_in, completed_of, in_spans, lives_where, may_be_live}
use Rattle.step_changes.specs.Due.{goes_on, is_due, may_change}
use Rattle.step_changes.specs.declared.stored.Asked.{Asked}
use Rattle.step_changes.specs.declared.stored.StoredLine.{StoredLine}
use Rattle.step_changes.specs.declared.view.Step.{Step}
use Rattle.step_changes.proofs.Lined.{none_passes, all_spanned}
use Rattle.step_changes.proofs.Listed.{cpus_size, cpu_at, word_there, same_word}
use Rattle.tx_step.specs.Sights.{shown_of, sight_of}
use Rattle.tx_step.specs.Stored.{Covers}
use Rattle.tx_step.specs.Traces.{IsTraced}
use Rattle.tx_step.proofs.Stepped.{shown_now}
use Rattle.tx_step.proofs.Touched.{bytes_stay, lines_stay, attempts_keep, live_afterwards}

-- what is shown of an attempt has how many instructions it has completed
completed_by : (b : Bool) (n levels : ℕ) → nat_lt 0 n ≡ b
    → completed_in (if b then Some (levels, n) else None) ≡ n
completed_by true n levels live = refl
completed_by false n levels off = sym (not_live n off)

pub completed_is : (m : Setting) (s : State) (i : ℕ) → completed_in (levels_at m s i) ≡ (s.numbers i).completed
completed_is m s i = completed_by (is_live s i) (s.numbers i).completed _ refl

-- a CPU that was seen with a live attempt is one that there is
seen_by : (m : Setting) (s : State) (i : ℕ) → nat_lt 0 (completed_of (slice_get (cpus_seen (shown_of m s)) i)) ≡ true
    → completed_of (slice_get (cpus_seen (shown_of m s)) i) ≡ (s.numbers i).completed
seen_by m s i live = by_way (slice_get_cases (cpus_seen (shown_of m s)) i).1
    (λ there.
    let x = there.0 in
    let low : i < cpus_of m = subst (λ n. i < n) (cpus_size (shown_of m s)) there.1 in
    ap completed_of there.2
    ∙ ap (λ (c : CpuSeen). completed_in c.live) (sym there.3 ∙ cpu_at (shown_of m s) i x low)
    ∙ completed_is m s i)
    (λ past. absurd (let x : false ≡ true = sym (ap (λ o. nat_lt 0 (completed_of o)) past.1) ∙ live in cc))

-- a live attempt is seen
seen_live : (m : Setting) (s : State) (i : ℕ) → is_live s i ≡ true → may_be_live (cpus_seen (shown_of m s)) i ≡ true
seen_live m s i live = by_way (slice_get_cases (cpus_seen (shown_of m s)) i).1
    (λ there.
    let x = there.0 in
    let low : i < cpus_of m = subst (λ n. i < n) (cpus_size (shown_of m s)) there.1 in
    ap lives_where there.2
    ∙ ap (λ (c : CpuSeen). nat_lt 0 (completed_in c.live)) (sym there.3 ∙ cpu_at (shown_of m s) i x low)
    ∙ ap (nat_lt 0) (completed_is m s i) ∙ live)
    (λ past. ap lives_where past.1)

-- an attempt that goes on was live, and is
record Goes (before after : State) (j : ℕ) : Type 0 where
  live : is_live before j ≡ true
  lives : is_live after j ≡ true

goes_there : (m : Setting) (before after : State) (j : ℕ) → goes_on (cpus_seen (shown_of m before)) (shown_of m after) j ≡ true
    → Goes before after j
goes_there m before after j is =
    let n = completed_of (slice_get (cpus_seen (shown_of m before)) j) in
    let both = and_parts (nat_lt 0 n) (nat_lt 0 (completed_in (levels_at m after j))) is in
    record {
      live = ap (nat_lt 0) (sym (seen_by m before j both.0)) ∙ both.0;
      lives = ap (nat_lt 0) (sym (completed_is m after j)) ∙ both.1;
    }

module _ (m : Setting) (s : IsSetting m) (events : List Event) (known : AreKnown m events) (e : Event)
    (within : cpu_of_event e < cpus_of m) (lines : List StoredLine) (covers : Covers m (meaning m events) lines)
    (wants : (line : ℕ) → stores (wanted m (meaning m events) (cpu_of_event e)) line ≡ true
    → has lines (cpu_of_event e) line ≡ true)
    (asked : Asked) (own : asked.cpu ≡ cpu_of_event e)
    (asks_is : asked.touches ≡ wanted m (meaning m events) (cpu_of_event e)) where
  abbrev before : State
  before = meaning m events

  abbrev after : State
  after = (happen m e before).state

  abbrev cpus : List CpuSeen
  cpus = cpus_seen (shown_of m before)

  -- a line of a CPU that has not changed is not asked for, and the attempt of the CPU goes on
  record Quiet (j line : ℕ) : Type 0 where
    apart : (j == asked.cpu && in_spans asked.touches line) ≡ false
    goes : goes_on cpus (shown_of m after) j ≡ true

  quiet_at : (line : ℕ) (l : StoredLine) → (l.line == line) ≡ true
      → (l.line == line && is_due cpus (shown_of m after) asked l) ≡ false → Quiet l.cpu l.line
  quiet_at line l here off =
      let asks = l.cpu == asked.cpu && in_spans asked.touches l.line in
      let w = goes_on cpus (shown_of m after) l.cpu in
      by_way (and_cases (l.line == line) (asks || not w) off)
      (λ elsewhere. absurd (both_ways (l.line == line) elsewhere here))
      (λ none. let parts = or_parts asks (not w) none in
      record { apart = parts.0; goes = not-false w parts.1 })

  quiet_of : (j line : ℕ) → may_change cpus (shown_of m after) asked lines line ≡ false → has lines j line ≡ true
      → Quiet j line
  quiet_of j line off there =
      let at = Any-from_list_any (λ (l : StoredLine). l.cpu == j && l.line == line) lines there in
      let l : StoredLine = at.1 in
      let both = and_parts (l.cpu == j) (l.line == line) at.4 in
      subst (λ x. Quiet x line) (eqb-true l.cpu j both.0)
      (subst (Quiet l.cpu) (eqb-true l.line line both.1)
      (quiet_at line l both.1 (none_passes
      (λ (x : StoredLine). x.line == line && is_due cpus (shown_of m after) asked x) lines at.0 l off at.2 at.3)))

  -- one of them has stored into the line
  abbrev stored_by : ℕ → StoredLine → Bool
  stored_by line l = l.line == line && (footprint_of m before l.cpu).stored line

  none_stored : (line j : ℕ) → list_any (stored_by line) lines ≡ false
      → (footprint_of m before j).stored line ≡ false
  none_stored line j none = false_from_ne_true ((footprint_of m before j).stored line) (λ is.
      let at = Any-from_list_any (λ (l : StoredLine). l.cpu == j && l.line == line) lines (covers j line is) in
      let l : StoredLine = at.1 in
      let both = and_parts (l.cpu == j) (l.line == line) at.4 in
      both_ways (stored_by line l) (none_passes (stored_by line) lines at.0 l none at.2 at.3)
      (and_from (l.line == line) _ both.1
      (ap (λ x. (footprint_of m before x).stored line) (eqb-true l.cpu j both.0) ∙ is)))

  abbrev Stays : ℕ → Type 0
  Stays a = (flat_of m after).storage a ≡ (flat_of m before).storage a

  -- where the line has not changed, an attempt that has stored into it keeps it, or nothing stores into it
  stays_where : (a : ℕ) → may_change cpus (shown_of m after) asked lines (a / 256) ≡ false → Stays a
  stays_where a off = by_way (cases_Bool (list_any (stored_by (a / 256)) lines))
      (λ some.
      let at = Any-from_list_any (stored_by (a / 256)) lines some in
      let l : StoredLine = at.1 in
      let both = and_parts (l.line == a / 256) _ at.4 in
      let quiet = quiet_of l.cpu (a / 256) off (covers l.cpu (a / 256) both.1) in
      let goes = goes_there m before after l.cpu quiet.goes in
      attempts_keep m s events known e within l.cpu a goes.live goes.lives both.1)
      (λ none.
      bytes_stay m s events known e within a (λ j. none_stored (a / 256) j none)
      (false_from_ne_true (stores (wanted m before (cpu_of_event e)) (a / 256)) (λ is.
      let asks = in_spans asked.touches (a / 256) in
      both_ways (cpu_of_event e == asked.cpu && asks)
      (quiet_of (cpu_of_event e) (a / 256) off (wants (a / 256) is)).apart
      (and_from (cpu_of_event e == asked.cpu) asks (eq-eqb (cpu_of_event e) asked.cpu (sym own))
      (ap (λ r. in_spans r (a / 256)) asks_is
      ∙ all_spanned (wanted m before (cpu_of_event e)) (a / 256) is)))))

  -- a word is the same, or its line may have changed
  pub changed_or_same : (w : ℕ) → (may_change cpus (shown_of m after) asked lines (w / 32) ≡ true)
      ⊎ (word_at (flat_of m after).storage w ≡ word_at (flat_of m before).storage w)
  changed_or_same w = by_way (cases_Bool (may_change cpus (shown_of m after) asked lines (w / 32)))
      (λ on. inl on)
      (λ off. inr (same_word (flat_of m after).storage (flat_of m before).storage w (λ a here.
      let line : w / 32 ≡ a / 256 = omega arith in
      stays_where a (ap (may_change cpus (shown_of m after) asked lines) (sym line) ∙ off))))

  -- what is stored into afterwards was among the lines, and is that of a live attempt
  covered_by : (j line : ℕ) → (footprint_of m after j).stored line ≡ true → has lines j line ≡ true
  covered_by j line is = true_from_ne_false (has lines j line) (λ off.
      both_ways ((footprint_of m after j).stored line)
      (lines_stay m s events known e within j line
      (false_from_ne_true ((footprint_of m before j).stored line) (λ there.
      both_ways (has lines j line) off (covers j line there)))
      (λ own. false_from_ne_true (stores (wanted m before j) line) (λ there.
      both_ways (has lines j line) off
      (subst (λ x. has lines x line ≡ true) (sym own)
      (wants line (subst (λ x. stores (wanted m before x) line ≡ true) own there))))))
      is)

  pub still_covers : Covers m after lines
  still_covers j line is = covered_by j line is

  pub covers_live : (kept : List StoredLine)
      → ((j line : ℕ) → is_live after j ≡ true → has lines j line ≡ true → has kept j line ≡ true)
      → Covers m after kept
  covers_live kept keeps j line is =
      keeps j line (live_afterwards m s events known e within j line is) (covered_by j line is)

-- ---- by what is seen of a machine

-- at the start nothing is stored into
starts_bare : (m : Setting) (j line : ℕ) → (footprint_of m beginning j).stored line ≡ false
unfolding run
starts_bare m j line = refl

pub none_happened : (m : Setting) → meaning m [] ≡ beginning
unfolding meaning_from
none_happened m = refl

pub begins_covered : (image : Content) (limits : RunLimits) (machine : Seen) (lines : List StoredLine)
    → machine ≡ opened image limits → Covers (setting_of machine) (state_of machine) lines
begins_covered image limits machine lines is =
    let m : Setting = record { image = image; limits = limits } in
    subst (λ (s : Seen). Covers (setting_of s) (state_of s) lines) (sym is)
    (λ j line there. absurd (both_ways ((footprint_of m beginning j).stored line) (starts_bare m j line)
    (ap (λ (t : State). (footprint_of m t j).stored line) (sym (none_happened m)) ∙ there)))

-- a turn that is idle leaves what is covered
pub idle_covers : (before next : Seen) (e : Event) (lines : List StoredLine) → next ≡ after_event before e
    → (event_of before e).state.events ≡ before.events → Covers (setting_of before) (state_of before) lines
    → Covers (setting_of next) (state_of next) lines
idle_covers before next e lines is same covers =
    subst (λ (s : Seen). Covers (setting_of s) (state_of s) lines) (sym is)
    (subst (λ events. Covers (setting_of before) (meaning (setting_of before) events) lines) (sym same) covers)

-- an event that is recorded, between what is seen of a machine before it and behind it
module _ (before next : Seen) (e : Event) (lines : List StoredLine) (s : IsSetting (setting_of before))
    (known : AreKnown (setting_of before) before.events) (within : cpu_of_event e < cpus_of (setting_of before))
    (is : next ≡ after_event before e) (state_is : state_of next ≡ (event_of before e).state)
    (covers : Covers (setting_of before) (state_of before) lines)
    (wants : (line : ℕ) → stores (wanted (setting_of before) (state_of before) (cpu_of_event e)) line ≡ true
    → has lines (cpu_of_event e) line ≡ true)
    (asked : Asked) (own : asked.cpu ≡ cpu_of_event e)
    (asks_is : asked.touches ≡ wanted (setting_of before) (state_of before) (cpu_of_event e)) where
  abbrev m : Setting
  m = setting_of before

  setting : setting_of next ≡ m
  setting = ap setting_of is

  -- what is shown has the words that the machine has, but in lines that may have changed
  pub due_or_same : (sight : Sight) (steps : List Step) → IsTraced before sight steps (length steps)
      → (w : ℕ) (d : List ℕ) → w < 131072
      → (may_change sight.cpus (shown_of (setting_of next) (state_of next)) asked lines (w / 32) ≡ true)
      ⊎ (get_or sight.words w d ≡ word_at (flat_of (setting_of next) (state_of next)).storage w)
  due_or_same sight steps traced w d low =
      let shown = shown_now before sight steps traced in
      let cpus = cpus_seen (shown_of m (state_of before)) in
      by_way (changed_or_same m s before.events known e within lines covers wants asked own asks_is w)
      (λ on. inl (ap (λ (v : Sight). may_change v.cpus (shown_of (setting_of next) (state_of next)) asked lines (w / 32)) shown
      ∙ ap (λ n. may_change cpus (shown_of n (state_of next)) asked lines (w / 32)) setting
      ∙ ap (λ t. may_change cpus (shown_of m t) asked lines (w / 32)) state_is ∙ on))
      (λ same. inr (ap (λ (v : Sight). get_or v.words w d) shown
      ∙ word_there (flat_of m (state_of before)).storage w d low ∙ sym same
      ∙ sym (ap (λ n. word_at (flat_of n (state_of next)).storage w) setting
      ∙ ap (λ t. word_at (flat_of m t).storage w) state_is)))

  -- lines of which those of live attempts are kept cover what is stored into
  next_covers : (kept : List StoredLine)
      → ((j line : ℕ) → is_live (state_of next) j ≡ true → has lines j line ≡ true → has kept j line ≡ true)
      → Covers (setting_of next) (state_of next) kept
  next_covers kept keeps =
      subst (λ n. Covers n (state_of next) kept) (sym setting)
      (subst (λ t. Covers m t kept) (sym state_is)
      (covers_live m s before.events known e within lines covers wants asked own asks_is kept
      (λ j line live. keeps j line (ap (λ t. is_live t j) state_is ∙ live))))

  -- and so do those that are kept by what is shown behind the event
  pub seen_covers : (sight : Sight) → sight ≡ sight_of (setting_of next) (state_of next) → (kept : List StoredLine)
      → ((j line : ℕ) → may_be_live sight.cpus j ≡ true → has lines j line ≡ true → has kept j line ≡ true)
      → Covers (setting_of next) (state_of next) kept
  seen_covers sight shown kept keeps = next_covers kept (λ j line live. keeps j line
      (ap (λ (v : Sight). may_be_live v.cpus j) shown ∙ seen_live (setting_of next) (state_of next) j live))
