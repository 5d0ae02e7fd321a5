-- What is recorded of events: of which CPUs, and how many.
use Rattle.std.proofs.Common.{◌≡◌, ℕ, ◌+◌, ◌*◌, ◌<◌, ◌≤◌, List, [], ◌∷◌, ◌++◌, length, Option, Some, None, refl, sym, ap}
use Rattle.std.proofs.Common.{◌∙◌, subst, arith, mul-le-mul, cond}
use Rattle.std.specs.Prelude.{All, count_by}
use Rattle.std.proofs.lemmas.List.Sums.{sum_by-cons}
use Rattle.std.proofs.lemmas.List.Elements.{All-nil, All-head, All-tail, All-push}
use Rattle.tx_journal.specs.Image.{cpu_of_event}
use Rattle.tx_journal.specs.declared.events.Event.{Event}
use Rattle.tx_journal.specs.declared.events.Event.TheVariants as event
use Rattle.tx_meaning.specs.Idle.{idle}
use Rattle.tx_meaning.specs.Limits.{Setting}
use Rattle.tx_meaning.specs.Meaning.{meaning, meaning_from, is_external}
use Rattle.tx_meaning.specs.Room.{is_turn}
use Rattle.tx_meaning.specs.Schedules.{AreReadyTurns, IsReadyTurn, planned_by}
use Rattle.tx_meaning.specs.State.{State, beginning, cpus_of}
use Rattle.tx_meaning.specs.Turn.{turn, happen}
use Rattle.tx_meaning.specs.Views.{AreKnown}
use Rattle.tx_meaning.proofs.Books.{idle_stays, idle_or_not, turn_booked, external_booked, few_turns, all_externals}
use Rattle.tx_meaning.proofs.Schedules.{drawn_leads, round_leads}
use Rattle.tx_headline.proofs.Recorded.{turn_is}

module _ (m : Setting) where
  abbrev known : List Event → Type 0
  known es = AreKnown m es

  more : (e : Event) (s : State) → cpu_of_event e < cpus_of m → known s.events
      → (happen m e s).state.events ≡ s.events ++ e ∷ [] → known (happen m e s).state.events
  more e s within here is =
      subst known (sym is) (All-push (λ x. cpu_of_event x < cpus_of m) s.events e here within)

  known_behind : (e : Event) (s : State) → cpu_of_event e < cpus_of m → known s.events
      → known (happen m e s).state.events
  known_behind (event.External i) s within here =
      more (event.External i) s within here (external_booked m i s).recorded
  known_behind (event.Turn i) s within here =
      idle_or_not (idle m s i) (λ o. known (happen m (event.Turn i) s).state.events)
      (λ o e. subst (λ (t : State). known t.events) (sym (turn_is m i s ∙ idle_stays m i s o e)) here)
      (λ none. more (event.Turn i) s within here
      (ap (λ (t : State). t.events) (turn_is m i s) ∙ (turn_booked m i s none).recorded))

  all_known : (es : List Event) (s : State) → known es → known s.events → known (meaning_from m es s).events
  unfolding meaning_from
  all_known [] s among here = here
  all_known (e ∷ rest) s among here =
      all_known rest (happen m e s).state (All-tail (λ x. cpu_of_event x < cpus_of m) e rest among)
      (known_behind e s (All-head (λ x. cpu_of_event x < cpus_of m) e rest among) here)

  -- what is recorded is of CPUs that there are
  pub recorded_known : (es : List Event) → known es → known (meaning m es).events
  recorded_known es among = all_known es beginning among (All-nil (λ x. cpu_of_event x < cpus_of m))

  -- ---- no interruption is planned

  none_in : (es : List Event) (s : State) → AreReadyTurns m es s → count_by is_external es ≡ 0
  none_in [] s ready = refl
  none_in (e ∷ rest) s ready = one e ready.0.cpu ready.0.turn (none_in rest (happen m e s).state ready.1)
    where
      one : (x : Event) (i : ℕ) → x ≡ event.Turn i → count_by is_external rest ≡ 0
          → count_by is_external (x ∷ rest) ≡ 0
      one x i is none = ap (λ (y : Event). count_by is_external (y ∷ rest)) is ∙ none

  pub none_planned : (seed : Option ℕ) → count_by is_external (planned_by seed m) ≡ 0
  none_planned (Some seed) = none_in (planned_by (Some seed) m) beginning (drawn_leads m seed)
  none_planned None = none_in (planned_by None m) beginning (round_leads m)

  -- ---- how many are recorded

  each_is_one : (es : List Event) → length es ≡ count_by is_turn es + count_by is_external es
  each_is_one [] = refl
  each_is_one (e ∷ rest) =
      omega (
        arith,
        each_is_one rest,
        one e,
        sum_by-cons (λ x. cond (is_turn x) 1 0) e rest,
        sum_by-cons (λ x. cond (is_external x) 1 0) e rest,
      )
    where
      one : (x : Event) → cond (is_turn x) 1 0 + cond (is_external x) 1 0 ≡ 1
      one (event.Turn i) = refl
      one (event.External i) = refl

  pub few_recorded : (es : List Event) → known es → count_by is_external es ≡ 0 → cpus_of m ≤ 16
      → m.limits.turns ≤ 200000 → length (meaning m es).events ≤ 4194304
  few_recorded es among none few turns =
      let product : cpus_of m * m.limits.turns ≤ 16 * 200000 = mul-le-mul few turns in
      omega (
        arith,
        product,
        each_is_one (meaning m es).events,
        few_turns m es among,
        all_externals m es,
        none,
      )
