-- Runs, event by event.
use Rattle.std.proofs.Common.{◌≡◌, ℕ, zero, suc, ◌+◌, ◌<◌, ◌≤◌, Bool, true, List, [], ◌∷◌, Some, None, length}
use Rattle.std.proofs.Common.{take, get_or, cond, refl, sym, ap, ap₂, ◌∙◌, subst, arith}
use Rattle.std.specs.Prelude.{count_by, slice_get}
use Rattle.std.proofs.lemmas.List.{take_more, take_all}
use Rattle.std.proofs.lemmas.List.Sums.{sum_by_more_le}
use Rattle.std.proofs.lemmas.Option.{get_or_from_slice_get}
use Rattle.tx_journal.specs.declared.events.Event.{Event}
use Rattle.tx_journal.specs.declared.events.Event.TheVariants.{Turn}
use Rattle.tx_meaning.specs.Idle.{is_ready}
use Rattle.tx_meaning.specs.Limits.{Setting}
use Rattle.tx_meaning.specs.Meaning.{meaning, meaning_from, is_external}
use Rattle.tx_meaning.specs.Schedules.{Choosing, chosen, chosen_next, with_next, turns_from, ready_cpus}
use Rattle.tx_meaning.specs.Schedules.{IsComplete}
use Rattle.tx_meaning.specs.State.{State, beginning, cpus_of}
use Rattle.tx_meaning.specs.Turn.{happen}
use Rattle.tx_meaning.proofs.Books.{all_externals}
use Rattle.tx_machine.specs.Machine.{Seen, setting_of, state_of, event_of, after}
use Rattle.tx_machine.proofs.Most.{meaning_more}
use Rattle.tx_schedule.specs.Next.{next_among}
use Rattle.tx_schedule.specs.Ran.{HasRun, HasNoneReady}

-- ---- turns by an order

-- so many turns more lead from here to this state
pub record Leads (m : Setting) (last : State) (choosing : Choosing) (left : ℕ) (machine : Seen) : Type 0 where
  pub setting : setting_of machine ≡ m
  pub state : last ≡ meaning_from m (turns_from left m choosing (state_of machine)) (state_of machine)

module _ (m : Setting) (choosing : Choosing) (s : State) where
  none_by : (rest : Choosing → State → List Event) (ready : List ℕ) → None ≡ next_among choosing ready
      → meaning_from m (with_next m choosing s rest ready) s ≡ s
  unfolding meaning_from
  none_by rest [] e = refl
  none_by rest (c ∷ ready) e = let n : None ≡ Some (chosen choosing (c ∷ ready)) = e in cc

  all_made : meaning_from m (turns_from 0 m choosing s) s ≡ s
  unfolding meaning_from turns_from
  all_made = refl

  none_made : (left : ℕ) → None ≡ next_among choosing (ready_cpus m s)
      → meaning_from m (turns_from left m choosing s) s ≡ s
  unfolding meaning_from turns_from
  none_made zero e = refl
  none_made (suc left) e = none_by (turns_from left m) (ready_cpus m s) e

  abbrev behind : (Choosing → State → List Event) → ℕ → State
  behind rest cpu =
      let t = (happen m (Turn cpu) s).state in
      meaning_from m (rest (chosen_next choosing cpu) t) t

  one_by : (rest : Choosing → State → List Event) (ready : List ℕ) (cpu : ℕ)
      → Some cpu ≡ next_among choosing ready
      → meaning_from m (with_next m choosing s rest ready) s ≡ behind rest cpu
  unfolding meaning_from
  one_by rest [] cpu e = let n : Some cpu ≡ None = e in cc
  one_by rest (c ∷ ready) cpu e =
      let same : chosen choosing (c ∷ ready) ≡ cpu = cc in
      ap (behind rest) same

  one_made : (left cpu : ℕ) → Some cpu ≡ next_among choosing (ready_cpus m s)
      → meaning_from m (turns_from (suc left) m choosing s) s ≡ behind (turns_from left m) cpu
  unfolding turns_from
  one_made left cpu e = one_by (turns_from left m) (ready_cpus m s) cpu e

module _ (m : Setting) (last : State) (choosing : Choosing) where
  -- no turn is left, or nobody is ready
  pub at_last : (left : ℕ) (machine : Seen) → left ≡ 0 → Leads m last choosing left machine
      → state_of machine ≡ last
  at_last left machine none leads =
      let s = state_of machine in
      sym (leads.state ∙ ap (λ n. meaning_from m (turns_from n m choosing s) s) none ∙ all_made m choosing s)

  pub none_left : (left : ℕ) (machine : Seen) → Leads m last choosing left machine
      → None ≡ next_among choosing (ready_cpus (setting_of machine) (state_of machine))
      → state_of machine ≡ last
  none_left left machine leads e =
      let none = e ∙ ap (λ n. next_among choosing (ready_cpus n (state_of machine))) leads.setting in
      sym (leads.state ∙ none_made m choosing (state_of machine) left none)

  -- one turn more
  pub leads_on : (n left : ℕ) (before next : Seen) (cpu : ℕ) (then : Choosing) → n ≡ suc left
      → Leads m last choosing n before
      → Some cpu ≡ next_among choosing (ready_cpus (setting_of before) (state_of before))
      → then ≡ chosen_next choosing cpu → next ≡ after before (Turn cpu)
      → state_of next ≡ (event_of before (Turn cpu)).state
      → Leads m last then left next
  leads_on n left before next cpu then more leads e then_is next_is state_is =
      let s = state_of before in
      let one = e ∙ ap (λ n. next_among choosing (ready_cpus n s)) leads.setting in
      let t : state_of next ≡ (happen m (Turn cpu) s).state =
      state_is ∙ ap (λ n. (happen n (Turn cpu) s).state) leads.setting in
      record {
        setting = ap setting_of next_is ∙ leads.setting;
        state =
            leads.state ∙ ap (λ n. meaning_from m (turns_from n m choosing s) s) more
            ∙ one_made m choosing s left cpu one
            ∙ ap₂ (λ (c : Choosing) (u : State). meaning_from m (turns_from left m c u) u) (sym then_is)
            (sym t);
      }

-- ---- the events of a schedule

-- the first so many events of a schedule have happened
pub record Follows (m : Setting) (schedule : List Event) (k : ℕ) (machine : Seen) : Type 0 where
  pub setting : setting_of machine ≡ m
  pub recorded : machine.events ≡ (state_of machine).events
  pub state : state_of machine ≡ meaning m (take k schedule)

none_recorded : (m : Setting) → (meaning m []).events ≡ []
unfolding meaning_from
none_recorded m = refl

pub follows_first : (machine : Seen) → machine.events ≡ []
    → Follows (setting_of machine) machine.image.schedule 0 machine
follows_first machine unused =
    let m = setting_of machine in
    record {
      setting = refl;
      recorded = unused ∙ sym (ap (λ l. (meaning m l).events) unused ∙ none_recorded m);
      state = ap (meaning m) unused;
    }

module _ (m : Setting) (schedule : List Event) (k : ℕ) (e : Event) (within : k < length schedule) where
  module _ (before : Seen) (given : slice_get before.image.schedule k ≡ Some e)
      (follows : Follows m schedule k before) (same : before.image.schedule ≡ schedule) where
    at : get_or schedule k e ≡ e
    at = get_or_from_slice_get schedule k e e (ap (λ (l : List Event). slice_get l k) (sym same) ∙ given)

    pub follows_on : (next : Seen) → next ≡ after before e → state_of next ≡ (event_of before e).state
        → Follows m schedule (k + 1) next
    follows_on next next_is state_is = record {
      setting = ap setting_of next_is ∙ follows.setting;
      recorded = ap (λ (s : Seen). s.events) next_is ∙ sym (ap (λ (t : State). t.events) state_is);
      state =
          state_is ∙ ap₂ (λ n t. (happen n e t).state) follows.setting follows.state
          ∙ ap (λ x. (happen m x (meaning m (take k schedule))).state) (sym at)
          ∙ sym (meaning_more m (take k schedule) (get_or schedule k e))
          ∙ ap (meaning m) (sym (take_more schedule k e within));
    }

    abbrev number_if : Bool → ℕ
    number_if b = cond b 1 0

    -- fewer interruptions from outside are recorded before one of them than there are in the schedule
    pub may_come : is_external e ≡ true → count_by is_external before.events < count_by is_external schedule
    may_come external =
        let events = follows.recorded ∙ ap (λ (t : State). t.events) follows.state in
        let recorded = ap (count_by is_external) events ∙ all_externals m (take k schedule) in
        let more = sum_by_more_le (λ x. number_if (is_external x)) schedule k e within in
        let one : number_if (is_external (get_or schedule k e)) ≡ 1 =
        ap (λ x. number_if (is_external x)) at ∙ ap number_if external in
        omega arith

pub follows_all : (before machine : Seen) (k : ℕ) → length before.image.schedule ≤ k
    → Follows (setting_of before) before.image.schedule k machine
    → HasRun before machine before.image.schedule
follows_all before machine k all follows = record {
  setting = follows.setting;
  state = follows.state ∙ ap (meaning (setting_of before)) (take_all k before.image.schedule all);
}

-- ---- from the beginning to the end

pub has_run : (before machine : Seen) (most all : ℕ) (choosing : Choosing) → before.events ≡ [] → all ≡ most
    → setting_of machine ≡ setting_of before
    → state_of machine ≡ meaning_from (setting_of before)
    (turns_from all (setting_of before) choosing (state_of before)) (state_of before)
    → HasRun before machine (turns_from most (setting_of before) choosing beginning)
unfolding meaning_from
has_run before machine most all choosing unused all_is same state_is =
    let m = setting_of before in
    let first : state_of before ≡ beginning = ap (meaning m) unused in
    record {
      setting = same;
      state = state_is ∙ ap₂ (λ n s. meaning_from m (turns_from n m choosing s) s) all_is first;
    }

pub none_ready : (before machine : Seen) (events : List Event) → HasRun before machine events
    → IsComplete (setting_of before) events → HasNoneReady machine
none_ready before machine events run complete i known =
    let inside : i < cpus_of (setting_of before) = subst (λ m. i < cpus_of m) run.setting known in
    ap₂ (λ m s. is_ready m s i) run.setting run.state ∙ complete i inside
