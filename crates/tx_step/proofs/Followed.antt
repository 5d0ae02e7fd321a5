-- Events that happen one after the other.
use Rattle.std.proofs.Common.{◌≡◌, ℕ, ◌+◌, ◌<◌, ◌≤◌, Bool, true, false, List, [], ◌∷◌, ◌++◌, length}
use Rattle.std.proofs.Common.{take, get_or, cond, refl, sym, ap, ap₂, subst, ◌∙◌, arith}
use Rattle.std.specs.Prelude.{count_by}
use Rattle.std.proofs.lemmas.List.{take_more, take_all}
use Rattle.std.proofs.lemmas.List.Sums.{sum_by_more_le}
use Rattle.z_regs.proofs.Elements.{is_nothing}
use Rattle.tx_journal.specs.Content.{Content}
use Rattle.tx_journal.specs.declared.events.Event.{Event}
use Rattle.tx_journal.specs.declared.events.Event.TheVariants.{Turn, External}
use Rattle.tx_meaning.specs.Idle.{idle, is_ready}
use Rattle.tx_meaning.specs.Limits.{Setting, RunLimits}
use Rattle.tx_meaning.specs.Meaning.{meaning, meaning_from, is_external}
use Rattle.tx_meaning.specs.State.{State}
use Rattle.tx_meaning.specs.Turn.{happen}
use Rattle.tx_meaning.proofs.Books.{turn_booked, external_booked, unready_stays, all_externals}
use Rattle.tx_machine.specs.Machine.{Seen, setting_of, state_of, event_of, after, opened}
use Rattle.tx_machine.proofs.Most.{meaning_more}

-- a turn of a CPU that is ready is recorded, that of another is not, and what comes from outside is
module _ (machine : Seen) (told : (state_of machine).events ≡ machine.events) where
  pub ready_recorded : (i : ℕ) → is_ready (setting_of machine) (state_of machine) i ≡ true
      → (event_of machine (Turn i)).state.events ≡ machine.events ++ Turn i ∷ []
  unfolding happen
  ready_recorded i ready =
      (turn_booked (setting_of machine) i (state_of machine)
      (is_nothing (idle (setting_of machine) (state_of machine) i) ready)).recorded
      ∙ ap (λ l. l ++ Turn i ∷ []) told

  pub idle_unrecorded : (i : ℕ) → is_ready (setting_of machine) (state_of machine) i ≡ false
      → (event_of machine (Turn i)).state.events ≡ machine.events
  idle_unrecorded i ready =
      ap (λ (s : State). s.events) (unready_stays (setting_of machine) (state_of machine) i ready) ∙ told

  pub external_recorded : (i : ℕ) → (event_of machine (External i)).state.events ≡ machine.events ++ External i ∷ []
  external_recorded i =
      (external_booked (setting_of machine) i (state_of machine)).recorded
      ∙ ap (λ l. l ++ External i ∷ []) told

-- ---- the first so many of some events have happened

pub record Follows (m : Setting) (events : List Event) (k : ℕ) (machine : Seen) : Type 0 where
  pub setting : setting_of machine ≡ m
  pub recorded : machine.events ≡ (state_of machine).events
  pub state : state_of machine ≡ meaning m (take k events)

none_recorded : (m : Setting) → [] ≡ (meaning m []).events
unfolding meaning_from
none_recorded m = refl

follows_first : (image : Content) (limits : RunLimits) (events : List Event)
    → Follows (record { image = image; limits = limits }) events 0 (opened image limits)
follows_first image limits events = record {
  setting = refl;
  recorded = none_recorded (record { image = image; limits = limits });
  state = refl;
}

pub begins_following : (image : Content) (limits : RunLimits) (events : List Event) (machine : Seen)
    → machine ≡ opened image limits
    → Follows (record { image = image; limits = limits }) events 0 machine
begins_following image limits events machine is =
    subst (Follows (record { image = image; limits = limits }) events 0) (sym is)
    (follows_first image limits events)

module _ (m : Setting) (events : List Event) (k : ℕ) (e : Event) (within : k < length events)
    (at : get_or events k e ≡ e) (before : Seen) (follows : Follows m events k before) where
  pub follows_on : (next : Seen) → next ≡ after before e → state_of next ≡ (event_of before e).state
      → Follows m events (k + 1) next
  follows_on next next_is state_is = record {
    setting = ap setting_of next_is ∙ follows.setting;
    recorded = ap (λ (s : Seen). s.events) next_is ∙ sym (ap (λ (t : State). t.events) state_is);
    state =
        state_is ∙ ap₂ (λ n t. (happen n e t).state) follows.setting follows.state
        ∙ ap (λ x. (happen m x (meaning m (take k events))).state) (sym at)
        ∙ sym (meaning_more m (take k events) (get_or events k e))
        ∙ ap (meaning m) (sym (take_more events k e within));
  }

  abbrev number_if : Bool → ℕ
  number_if b = cond b 1 0

  -- before an interruption from outside fewer are recorded than there are in all
  pub may_come : is_external e ≡ true → count_by is_external events ≤ m.limits.externals
      → count_by is_external before.events < before.limits.externals
  may_come external few =
      let told = follows.recorded ∙ ap (λ (t : State). t.events) follows.state in
      let recorded = ap (count_by is_external) told ∙ all_externals m (take k events) in
      let more = sum_by_more_le (λ x. number_if (is_external x)) events k e within in
      let one : number_if (is_external (get_or events k e)) ≡ 1 =
      ap (λ x. number_if (is_external x)) at ∙ ap number_if external in
      let limit : before.limits.externals ≡ m.limits.externals =
      ap (λ (n : Setting). n.limits.externals) follows.setting in
      omega arith

-- all have happened
pub all_recorded : (m : Setting) (events : List Event) (k : ℕ) (machine : Seen) → length events ≤ k
    → Follows m events k machine → machine.events ≡ (meaning m events).events
all_recorded m events k machine all follows =
    follows.recorded ∙ ap (λ (t : State). t.events) follows.state
    ∙ ap (λ l. (meaning m l).events) (take_all k events all)
